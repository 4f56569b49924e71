-- The signature of each form of record: where it may stand, by the open dispatches or by the
-- running action; which numbers it uses; which it claims.
use Rattle.std.specs.Prelude.{ℕ}
use Rattle.er_trace.specs.declared.nesting.Nesting.{Nesting}
use Rattle.er_trace.specs.declared.nesting.Nesting.TheVariants.{Note, Alone, OutsideInline, Called, Under, Behind}
use Rattle.er_trace.specs.declared.record.Record.{Record}
use Rattle.er_trace.specs.declared.record.Record.TheVariants.{Parse, ParseFrame, Exec, Timer, Tick, Dcl, Load, Eload, Fire, Wfire, Reply, Inline, Run, Close, Back, New, NewFrame, On, Set, Every, Send, Post, Ask, Queue, Message, Anim, Job, Access}

-- the numbers that have to be declared before it, or to have begun
pub data Uses : Type 0 where
  UsesNone : Uses
  UsesDocument : (doc : ℕ) → Uses
  UsesElement : (element : ℕ) → Uses
  UsesTimeout : (timeout : ℕ) → Uses
  UsesInterval : (interval : ℕ) → Uses
  UsesRequest : (request : ℕ) → Uses
  UsesDispatch : (dispatch : ℕ) → Uses
  UsesDispatchAndHandler : (dispatch : ℕ) → (handler : ℕ) → Uses
  UsesMessage : (message : ℕ) → Uses
  UsesAnim : (anim : ℕ) → Uses
  UsesJob : (job : ℕ) → Uses

-- the numbers that it declares or starts, each of which no other record of a list may declare, or
-- start, again
pub data Claims : Type 0 where
  ClaimsNone : Claims
  MakesElement : (element : ℕ) → Claims
  MakesFrame : (element : ℕ) → (inner : ℕ) → Claims
  MakesHandler : (handler : ℕ) → Claims
  MakesTimeout : (timeout : ℕ) → Claims
  MakesInterval : (interval : ℕ) → Claims
  MakesRequest : (request : ℕ) → Claims
  MakesMessage : (message : ℕ) → Claims
  MakesAnim : (anim : ℕ) → Claims
  MakesJob : (job : ℕ) → Claims
  StartsScript : (element : ℕ) → Claims
  StartsTimeout : (timeout : ℕ) → Claims
  StartsMessage : (message : ℕ) → Claims
  StartsAnim : (anim : ℕ) → Claims
  StartsJob : (job : ℕ) → Claims
  StartsDispatch : (dispatch : ℕ) → Claims
  StartsDcl : (dispatch : ℕ) → (doc : ℕ) → Claims
  StartsLoad : (dispatch : ℕ) → (doc : ℕ) → Claims
  StartsEload : (dispatch : ℕ) → (element : ℕ) → Claims

pub record Signature : Type 0 where
  pub nesting : Nesting
  pub uses : Uses
  pub claims : Claims

abbrev sign : Nesting → Uses → Claims → Signature
sign nesting uses claims = record { nesting = nesting; uses = uses; claims = claims }

abbrev pub signature : Record → Signature
signature (Parse d e k) = sign Alone (UsesDocument d) (MakesElement e)
signature (ParseFrame d e f) = sign Alone (UsesDocument d) (MakesFrame e f)
signature (Exec e) = sign Alone (UsesElement e) (StartsScript e)
signature (Timer t) = sign Alone (UsesTimeout t) (StartsTimeout t)
signature (Tick i) = sign Alone (UsesInterval i) ClaimsNone
signature (Dcl p d) = sign Alone (UsesDocument d) (StartsDcl p d)
signature (Load p d) = sign Alone (UsesDocument d) (StartsLoad p d)
signature (Eload p e) = sign Alone (UsesElement e) (StartsEload p e)
signature (Fire p e n) = sign Alone (UsesElement e) (StartsDispatch p)
signature (Wfire p d n) = sign Alone (UsesDocument d) (StartsDispatch p)
signature (Reply p r) = sign Alone (UsesRequest r) (StartsDispatch p)
signature (Inline p e n) = sign Called (UsesElement e) (StartsDispatch p)
signature (Run p g x) = sign (Under p) (UsesDispatchAndHandler p x) ClaimsNone
signature (Close p) = sign (Under p) (UsesDispatch p) ClaimsNone
signature (Back p) = sign (Behind p) (UsesDispatch p) ClaimsNone
signature (Message m) = sign Alone (UsesMessage m) (StartsMessage m)
signature (Anim a) = sign Alone (UsesAnim a) (StartsAnim a)
signature (Job j) = sign OutsideInline (UsesJob j) (StartsJob j)
signature (New d e k) = sign Note (UsesDocument d) (MakesElement e)
signature (NewFrame d e f) = sign Note (UsesDocument d) (MakesFrame e f)
signature (On x) = sign Note UsesNone (MakesHandler x)
signature (Set t n) = sign Note UsesNone (MakesTimeout t)
signature (Every i n) = sign Note UsesNone (MakesInterval i)
signature (Send r) = sign Note UsesNone (MakesRequest r)
signature (Post m) = sign Note UsesNone (MakesMessage m)
signature (Ask a) = sign Note UsesNone (MakesAnim a)
signature (Queue j) = sign Note UsesNone (MakesJob j)
signature (Access m l) = sign Note UsesNone ClaimsNone

abbrev pub nesting : Record → Nesting
nesting x = (signature x).nesting

abbrev pub uses : Record → Uses
uses x = (signature x).uses

abbrev pub claims : Record → Claims
claims x = (signature x).claims
