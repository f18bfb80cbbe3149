-- What power-on and the bus's calls leave, by the way that their code takes.
-- Assumes nothing.
use Prim.Native.Nat.{ℕ}
use mathlib.Core.Path.{◌≡◌, refl, sym, ap, ◌∙◌, subst}
use mathlib.Core.Bool.{true, false}
use mathlib.Core.List.{List, [], ◌∷◌}
use lib.Seq.{paste}
use Rattle.std.specs.Prelude.{Ok, Err}
use Rattle.rules.specs.Answers.{number_of}
use Rattle.rules.specs.declared.refusal.Refusal.{Refusal}
use Rattle.rules.specs.declared.refusal.Refusal.TheVariants.{Unsound}
use Rattle.port.specs.declared.types.State.{State}
use Rattle.rules.specs.Answers.{DONE, WRONG_SIZE}
use Rattle.rules.proofs.Choice.{at_true, at_false}
use Rattle.rules.specs.Flags.{OFF}
use Rattle.port.specs.Parts.{FULL_SPEED, is_size, port_of, with_ren}
use Rattle.port.specs.Remote.{local_now}
use Rattle.port.specs.Answer.{numbered}
use Rattle.port.specs.Device.{Result, made, power_on}
use Rattle.port.specs.Calls.{reset_by_bus, suspend}
use Rattle.port.specs.Step.{Call, quiet, bus_reset, bus_suspend, quietly, soundly}
use Rattle.port.specs.declared.types.Setting.{Setting}
use Rattle.port.specs.declared.types.Remote.TheVariants.{Locs}
use Rattle.c_bytes.specs.Layout.{PORT, PORT_AT, REMOTE_AT, port_bytes, remote_number, state_in, unit_in, unit_bytes}
use Rattle.c_parts.proofs.Puts.{port_put, remote_put}
use Rattle.c_promise.specs.Promise.{Decided, result_bytes, on_bytes, answer_of, Returns}
use Rattle.c_promise.specs.declared.types.TmcAnswer.{TmcAnswer}
use Rattle.c_promise.proofs.Called.{Either, state_found, holds, returning, refusal}
use Rattle.c_promise.proofs.Made.{made_stored}

module _ (packet : ℕ) (u' : List ℕ) (r : TmcAnswer) where
  abbrev setting : Setting
  setting = record { packet = packet }

  abbrev Powers : Type 0
  Powers = Returns (result_bytes (power_on setting)) u' r

  by : (q : Result) → power_on setting ≡ q → u' ≡ unit_bytes q.unit → r ≡ answer_of q.answer → Powers
  by q e f a = subst (λ (p : Result). Returns (result_bytes p) u' r) (sym e) (record { unit = f; answer = a })

  pub powered : is_size packet ≡ true → u' ≡ unit_bytes (made setting OFF) → r ≡ answer_of (numbered DONE) → Powers
  unfolding power_on
  powered e f a = by _ (at_true _ _ _ e) f a

  pub unpowered : is_size packet ≡ false → u' ≡ unit_bytes (made (record { packet = FULL_SPEED }) OFF) → r ≡ answer_of (numbered WRONG_SIZE) → Powers
  unfolding power_on
  unpowered e f a = by _ (at_false _ _ _ e) f a

module _ (u : List ℕ) (told : Either State) (is : Decided u (Ok (state_in u)) (Err Unsound) told) (u' : List ℕ) (r : TmcAnswer) where
  -- no rule but that of soundness: what is refused is not sound
  pub bus_refused : (c : Call) (k : Refusal) → told ≡ Err k → r ≡ answer_of (numbered (number_of k)) → Returns (on_bytes u c) u r
  bus_refused c k e a = refusal u c is k e (λ _ g. let z : ◌≡◌ {A = Either State} (Ok (state_in u)) (Err k) = sym g ∙ e in cc) r a

  module _ (st : State) (e : told ≡ Ok st) where
    pub reset_done : u' ≡ unit_bytes (made (port_of st).setting OFF) → r ≡ answer_of (numbered DONE) → Returns (on_bytes u bus_reset) u' r
    unfolding unit_in soundly reset_by_bus
    reset_done f a =
        let s = state_found is st e in
        returning u is.lent bus_reset s.0 _ refl u' r (record { stored = made_stored _ OFF; bytes = f ∙ ap (λ (x : State). unit_bytes (made (port_of x).setting OFF)) (sym s.1) }) a

    pub suspend_done : (v : List ℕ) → v ≡ paste u PORT_AT (port_bytes (with_ren (port_of st) OFF)) PORT
        → u' ≡ paste v REMOTE_AT (remote_number Locs ∷ []) 1 → r ≡ answer_of (numbered DONE)
        → Returns (on_bytes u (quiet bus_suspend)) u' r
    unfolding unit_in soundly quietly suspend local_now
    suspend_done v f g a =
        let c = quiet bus_suspend in
        let s = state_found is st e in
        let port = f ∙ ap (λ (x : State). paste u PORT_AT (port_bytes (with_ren (port_of x) OFF)) PORT) (sym s.1) in
        returning u is.lent c s.0 _ refl u' r ((remote_put Locs).to ((port_put (with_ren (port_of (state_in u)) OFF)).to (holds u is.lent s.0) port) g) a
