-- What a call does to the lent buffer: the bytes behind those that were seen are as before (`c_rest`, `unit_rest`), and a call that is not answered 0 leaves
-- every byte, tells nothing and has the length 0 (`..-untouched`; `..-untold` where no buffer is lent): from C on whatever bytes, by value of every unit.
-- Assumes nothing.
use Prim.Native.Nat.{ℕ}
use mathlib.Core.Path.{◌≡◌, refl, sym, ap, ◌∙◌, subst}
use mathlib.Core.List.{List}
use mathlib.Core.Logic.{⊎_elim}
use lib.ListN.{length, drop}
use lib.Seq.{drop_at}
use Rattle.rules.specs.Answers.{DONE, TELLS_NOTHING, Leaves, as_ruled, unchanged, out_halted, leaves}
use Rattle.rules.specs.declared.verdict.Verdict.{Verdict}
use Rattle.wire.specs.Bytes.{into}
use Rattle.port.specs.Answer.{numbered, Answer}
use Rattle.port.specs.Device.{Device, Result}
use Rattle.port.specs.Step.{in_poll, Call, out_packet, quiet, step}
use Rattle.port.specs.Laws.{LeftAs}
use Rattle.port.proofs.KeepsOut.{cases}
use Rattle.port.proofs.Calls.{leaves_table}
use Rattle.c_bytes.specs.Layout.{is_unit, unit_in}
use Rattle.c_promise.specs.Promise.{BytesResult, on_bytes, Returns, Fills}
use Rattle.c_promise.specs.declared.types.TmcAnswer.{TmcAnswer}
use Rattle.c_promise.proofs.Called.{on_unit, on_none}
use Rattle.unit.specs.Promise.{device_of, done_of, Tells}
use Rattle.unit.specs.declared.types.Unit.{Unit}
use Rattle.unit.specs.declared.types.Done.{Done}
use Rattle.unit.specs.declared.types.Told.{Told}
use Rattle.unit.proofs.Public.{told_step}
use Rattle.unit_inplace.specs.InPlace.{Alters, Sends}
use Rattle.unit_inplace.specs.declared.types.Sent.{Sent}
use Rattle.claims_caller.specs.Seen.{Untouched}

-- ** the rest of the buffer

pub c_rest : (q : BytesResult) (b b' u' : List ℕ) (r : TmcAnswer) → Fills q b b' u' r → drop r.len b' ≡ drop r.len b
c_rest q b b' u' r h =
    let bytes = q.answer.bytes in
    let e : length bytes ≡ r.len = sym (ap (λ (a : TmcAnswer). a.len) h.returned.answer) in
    ap (drop r.len) h.buffer ∙ drop_at bytes (drop (length bytes) b) r.len e ∙ ap (λ (k : ℕ). drop k b) e

pub unit_rest : (u : Unit) (c : Call) (b b' : List ℕ) (t : Told) → Tells (step (device_of u) c) b b' t → drop t.len b' ≡ drop t.len b
unit_rest u c b b' t h = (told_step u c b b' t h).rest

-- ** an answer that is not 0

-- it is the number alone
abbrev Plain : Answer → Type 0
Plain a = (a.verdict.number ≡ DONE → ⊥) → a ≡ numbered a.verdict.number

step_plain : (d : Device) (c : Call) → Plain (step d c).answer
step_plain d c n = by (leaves (step d c).answer.verdict.number) (step d c) (leaves_table d c n)
  where
    by : (x : Leaves) (q : Result) → LeftAs x d q → q.answer ≡ numbered q.answer.verdict.number
    by as_ruled q k = absurd k
    by unchanged q k = ap (λ (p : Result). p.answer) k
    by out_halted q k = ap (λ (p : Result). p.answer) k

bytes_plain : (u : List ℕ) (c : Call) → Plain (on_bytes u c).answer
bytes_plain u c =
    ⊎_elim
    (λ is. subst (λ (q : BytesResult). Plain q.answer) (sym (on_unit u c is)) (step_plain (unit_in u) c))
    (λ is. subst (λ (q : BytesResult). Plain q.answer) (sym (on_none u c is)) (λ _. refl))
    (cases (is_unit u))

-- what a caller sees of such an answer
module _ {a : Answer} (plain : Plain a) {v : Verdict} (is : v ≡ a.verdict) (refused : v.number ≡ DONE → ⊥) where
  alone : a ≡ numbered a.verdict.number
  alone = plain (λ e. refused (ap (λ (x : Verdict). x.number) is ∙ e))

  untold : v.tells ≡ TELLS_NOTHING
  untold = ap (λ (x : Verdict). x.tells) is ∙ ap (λ (x : Answer). x.verdict.tells) alone

  module _ {n : ℕ} (long : n ≡ length a.bytes) where
    empty : n ≡ 0
    empty = long ∙ ap (λ (x : Answer). length x.bytes) alone

    untouched : {b b' : List ℕ} → b' ≡ into a.bytes b → Untouched b b' v n
    untouched {b} put = record { buffer = put ∙ ap (λ (x : Answer). into x.bytes b) alone; tells = untold; len = empty }

-- ** from C, whatever the bytes of the unit

module _ (u : List ℕ) (c : Call) (u' : List ℕ) (r : TmcAnswer) (refused : r.verdict.number ≡ DONE → ⊥) where
  module _ (h : Returns (on_bytes u c) u' r) where
    verdict : r.verdict ≡ (on_bytes u c).answer.verdict
    verdict = ap (λ (x : TmcAnswer). x.verdict) h.answer

    len : r.len ≡ length (on_bytes u c).answer.bytes
    len = ap (λ (x : TmcAnswer). x.len) h.answer

    pub c_untold : (r.verdict.tells ≡ TELLS_NOTHING) × (r.len ≡ 0)
    c_untold = (untold (bytes_plain u c) verdict refused, empty (bytes_plain u c) verdict refused len)

  pub c_untouched : (b b' : List ℕ) → Fills (on_bytes u c) b b' u' r → Untouched b b' r.verdict r.len
  c_untouched b b' h = untouched (bytes_plain u c) (verdict h.returned) refused (len h.returned) h.buffer

-- ** by value and in place, of every unit

module _ (u : Unit) where
  pub unit_untold : (c : Call) (r : Done) → r ≡ done_of (step (device_of u) c) → (r.verdict.number ≡ DONE → ⊥) → r.verdict.tells ≡ TELLS_NOTHING
  unit_untold c r h refused = untold (step_plain (device_of u) c) (ap (λ (x : Done). x.verdict) h) refused

  pub unit_untouched : (c : Call) (b b' : List ℕ) (t : Told) → Tells (step (device_of u) c) b b' t → (t.verdict.number ≡ DONE → ⊥) → Untouched b b' t.verdict t.len
  unit_untouched c b b' t h refused = untouched (step_plain (device_of u) c) (ap (λ (x : Told). x.verdict) h.told) refused (ap (λ (x : Told). x.len) h.told) h.buffer

  pub packet_in_place_untold : (s : List ℕ) (v : Unit) (r : Verdict) → Alters (step (device_of u) (out_packet s)) v r → (r.number ≡ DONE → ⊥) → r.tells ≡ TELLS_NOTHING
  packet_in_place_untold s v r h refused = untold (step_plain (device_of u) (out_packet s)) h.verdict refused

  pub poll_in_place_untouched : (b b' : List ℕ) (v : Unit) (r : Sent) → Sends (step (device_of u) (quiet (in_poll (length b)))) b b' v r → (r.verdict.number ≡ DONE → ⊥)
      → Untouched b b' r.verdict r.len
  poll_in_place_untouched b b' v r h refused = untouched (step_plain (device_of u) (quiet (in_poll (length b)))) h.verdict refused h.len h.buffer
