-- The records that a generator gives, one by one: so many were taken, the others are left.
use Rattle.std.proofs.Common.{◌≡◌, ℕ, zero, suc, ◌+◌, ◌<◌, ◌≤◌, List, [], ◌∷◌, ◌++◌, Some, None, Bool, true, take, drop, length, reverse, get_or, refl, ap, sym, ◌∙◌, subst, arith}
use Rattle.std.specs.List.{slice_get, list_all}
use Rattle.std.proofs.lemmas.Option.{slice_get_within}
use Rattle.er_trace.specs.declared.record.Record.{Record}
use Rattle.er_trace.specs.declared.version.Version.{Version}
use Rattle.er_trace.specs.Trace.{most_lines}
use Rattle.er_trace.specs.Versions.{has_record}
use Rattle.er_trace.specs.declared.fault.FeedFault.{FeedFault}
use Rattle.er_gen.proofs.GeneratedLemmas.{first_left, rest_left}
use Rattle.er_run.specs.declared.session.Session.{Session}
use Rattle.er_run.specs.Session.{IsSessionOf, IsSession, IsFaultAfter, IsFaultOf}
use Rattle.er_run.proofs.JudgeLemmas.{stands_first, stands_last, stands_more, fault_at}
use Rattle.er_run.proofs.VersionLemmas.{version_at}

-- the old session took so many of all, and is this one now
pub record AreTaken (old now : Session) (all left : List Record) : Type 0 where
  pub at : ℕ
  pub within : at ≤ length all
  pub are_left : left ≡ drop at all
  pub stands : (earlier : List Record) → IsSessionOf old (reverse earlier) → IsSessionOf now (reverse (earlier ++ take at all))
  pub version : now.graph.version ≡ old.graph.version
  pub some : IsSession now
  pub count : now.records ≡ old.records + at

-- places of a list

got : (all : List Record) (at : ℕ) (x : Record) → Some x ≡ slice_get all at → x ≡ get_or all at x
got [] zero x e = absurd (cc)
got [] (suc k) x e = absurd (cc)
got (y ∷ all) zero x e = cc
got (y ∷ all) (suc k) x e = got all k x e

last : (all : List Record) (at : ℕ) → at ≤ length all → None ≡ slice_get all at → at ≡ length all
last [] zero within e = refl
last [] (suc k) within e = absurd (omega arith)
last (y ∷ all) zero within e = absurd (cc)
last (y ∷ all) (suc k) within e = let same = last all k (omega arith) e in omega (arith, same)

-- the next one that is given stands there
there : (old now : Session) (all left : List Record) (x : Record) → (t : AreTaken old now all left) → Some x ≡ slice_get left 0 → Some x ≡ slice_get all t.at
there old now all left x t e = e ∙ ap (λ l. slice_get l 0) t.are_left ∙ first_left all t.at

below : (all : List Record) (at : ℕ) (x : Record) → Some x ≡ slice_get all at → at < length all
below all at x e = slice_get_within all at x (sym e)

-- none was taken yet
pub none_taken : (s : Session) (all : List Record) → IsSession s → AreTaken s s all all
none_taken s all some = record {
  at = 0;
  within = omega arith;
  are_left = refl;
  stands = λ earlier. stands_first s earlier all;
  version = refl;
  some = some;
  count = omega arith;
}

-- one more was taken
pub one_taken : (old now new : Session) (all left : List Record) (x : Record) → AreTaken old now all left → Some x ≡ slice_get left 0 → ((h : List Record) → IsSessionOf now h → IsSessionOf new (x ∷ h)) → new.graph.version ≡ now.graph.version → AreTaken old new all (drop 1 left)
one_taken old now new all left x t e takes version =
    let is = there old now all left x t e in
    let less = below all t.at x is in
    let before = t.some.stands.count in
    let behind = (takes t.some.list t.some.stands).count in
    record {
      at = t.at + 1;
      within = omega (arith, less);
      are_left = ap (drop 1) t.are_left ∙ rest_left all t.at;
      stands = λ earlier stands. stands_more new earlier all t.at x less (got all t.at x is) (takes _ (t.stands earlier stands));
      version = version ∙ t.version;
      some = record { list = x ∷ t.some.list; stands = takes t.some.list t.some.stands };
      count = omega (arith, before, behind, t.count);
    }

-- all were taken
pub all_taken : (old now : Session) (all left earlier : List Record) → AreTaken old now all left → None ≡ slice_get left 0 → IsSessionOf old (reverse earlier) → IsSessionOf now (reverse (earlier ++ all))
all_taken old now all left earlier t e stands =
    let none : None ≡ slice_get all t.at = e ∙ ap (λ l. slice_get l 0) t.are_left ∙ first_left all t.at in
    stands_last now earlier all t.at (last all t.at t.within none) (t.stands earlier stands)

-- the next one is refused
pub next_refused : (old now : Session) (all left earlier : List Record) (x : Record) (fault : FeedFault) → AreTaken old now all left → Some x ≡ slice_get left 0 → ((h : List Record) → IsSessionOf now h → IsFaultAfter now.graph.version h x fault)
    → IsSessionOf old (reverse earlier) → IsFaultOf old.graph.version (earlier ++ all) fault
next_refused old now all left earlier x fault t e refused stands =
    let is = there old now all left x t e in
    let here = t.stands earlier stands in
    subst (λ (v : Version). IsFaultOf v (earlier ++ all) fault) t.version (fault_at now earlier all t.at x fault (below all t.at x is) (got all t.at x is) here (refused _ here))

-- there is room for the next one
pub next_room : (old now : Session) (all left : List Record) (x : Record) → AreTaken old now all left → Some x ≡ slice_get left 0 → old.records + length all ≤ most_lines → now.records < most_lines
next_room old now all left x t e room = omega (arith, below all t.at x (there old now all left x t e), t.count, room)

-- it is of the version of all
pub next_version : (old now : Session) (all left : List Record) (x : Record) → AreTaken old now all left → Some x ≡ slice_get left 0 → list_all (has_record old.graph.version) all ≡ true → has_record now.graph.version x ≡ true
next_version old now all left x t e each =
    let is = there old now all left x t e in
    subst (λ (v : Version). has_record v x ≡ true) (sym t.version) (version_at old.graph.version all t.at x each (below all t.at x is) (got all t.at x is))
