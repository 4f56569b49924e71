use Rattle.std.proofs.Common.{◌≡◌, ◌∙◌, ◌++◌, ◌∷◌, [], ap, sym, List, ℕ, arith}
use Rattle.std.specs.Prelude.{reverse}
use Rattle.std.proofs.lemmas.List.{reverse-append}
use Rattle.er_clocks.specs.Shared.{shared, taken}
use Rattle.er_clocks.specs.Reached.{reach_at, links_taken}
use Rattle.er_clocks.proofs.Growth.{links_short, taken_links, taken_row}
use Rattle.er_clocks.proofs.LookUps.{as_seen, links_in, rows_in}
use Rattle.er_clocks.proofs.Pushes.{clock_pushed, found_is_fit}
use Rattle.er_clocks.proofs.clocks.Clocks.put.Goals as goal

pub overflow_add-self : goal.overflow_add-self
overflow_add-self c =
    let was = c.self.inside in
    let s = as_seen c.self.inside c.args.self.now c.self.invariant c.self.view_is in
    let links : List ℕ = taken [] (links_in was) c.args.sources.links in
    let few = links_short c.args.self.now (links_taken c.args.self.now c.args.sources.links) links (taken_links was c.args.self.now c.args.sources.links (links_taken c.args.self.now c.args.sources.links) s c.requires.links c.requires.made.links) in
    omega (arith, c.count_of-more.ensures, few, s.clock.short, s.clock.few)

pub invariant_of-self-2 : goal.invariant_of-self-2
invariant_of-self-2 c =
    let was = c.self.inside in
    let seen = c.args.self.now in
    let p : List ℕ = links_taken seen c.args.sources.links in
    let s = as_seen c.self.inside c.args.self.now c.self.invariant c.self.view_is in
    let x : ℕ = c.fit-chain.result in
    let place : ℕ = c.place_at-place.result in
    let sources = c.args.sources in
    let made = c.requires.made in
    let links : List ℕ = taken [] (links_in was) sources.links in
    let row : List ℕ = taken [] (rows_in was) c.in_ok-row.row in
    let rows_are : shared [] c.put.new.self.lists.items c.put.new.self.numbers.items ≡ rows_in was ++ row ∷ [] = rw (c.in_ok-make_room.ensures.lists, c.in_ok-make_room.ensures.numbers) at c.put.ensures.more [] in
    let links_are : shared [] c.put-2.new.self.lists.items c.put-2.new.self.numbers.items ≡ links_in was ++ links ∷ [] = rw (c.in_ok-make_room-2.ensures.lists, c.in_ok-make_room-2.ensures.numbers) at c.put-2.ensures.more [] in
    let numbers_are : c.put_number.new.numbers.items ≡ was.numbers.items ++ x ∷ [] = c.put_number.ensures ∙ ap (λ (xs : List ℕ). xs ++ x ∷ []) c.in_ok-make_room_for_numbers.ensures.numbers in
    let places_are : c.put_number-2.new.numbers.items ≡ was.places.items ++ place ∷ [] = c.put_number-2.ensures ∙ ap (λ (xs : List ℕ). xs ++ place ∷ []) c.in_ok-make_room_for_numbers.ensures.places in
    let held = rw c.deref.ensures.value at c.in_ok-row.ensures.held in (
      rw (links_are, rows_are, numbers_are, places_are, c.in_ok-append.ensures.appended)
          (clock_pushed (links_in was) (rows_in was) seen was.numbers.items was.places.items was.chains was.count p row links x place c.count_of-more.result
          c.self.view_is c.self.invariant.0 c.requires.room
          (taken_row was seen sources.reach c.in_ok-row.row p x s c.requires.reach made.reach held)
          (found_is_fit p seen (reach_at seen sources.reach) x made.reach c.fit-chain.ensures)
          (taken_links was seen sources.links p s c.requires.links made.links)
          c.place_at-place.ensures c.count_of-more.ensures),
      c.put.ensures.shared,
      c.put-2.ensures.shared,
    )

pub returns-clause-put : goal.returns-clause-put
returns-clause-put c =
    let was = c.self.inside in
    let seen = c.args.self.now in
    let s = as_seen c.self.inside c.args.self.now c.self.invariant c.self.view_is in
    let made = c.requires.made in
    let one = c.args.sources.links in
    let links : List ℕ = taken [] (links_in was) one in
    let links_are : shared [] c.put-2.new.self.lists.items c.put-2.new.self.numbers.items ≡ links_in was ++ links ∷ [] = rw (c.in_ok-make_room-2.ensures.lists, c.in_ok-make_room-2.ensures.numbers) at c.put-2.ensures.more [] in
    ap reverse links_are ∙ reverse-append (links_in was) (links ∷ []) ∙ ap (λ (xs : List (List ℕ)). links ∷ xs) c.self.view_is
    ∙ ap (λ (xs : List ℕ). xs ∷ seen) (taken_links was seen one (links_taken seen one) s c.requires.links made.links ∙ sym made.links)
