-- What each effect of a row does to a unit in bytes.
-- Assumes nothing.
use Prim.Native.Nat.{ℕ}
use mathlib.Core.Path.{◌≡◌, sym, ap, subst, ◌∙◌}
use mathlib.Core.List.{List, [], ◌∷◌, ◌++◌, append-nil}
use native.Mathlib.Omega.{arith}
use lib.ListN.{length, take, drop, drop_of_length-le, length-append}
use lib.Seq.{paste, take_all}
use borrow.Author.Tests.{eq-eqb, ne_eqb}
use Rattle.rules.proofs.Choice.{at_true, at_false}
use Rattle.port.specs.Parts.{port_of, out_of, in_of, interrupt_of, with_ren, empty_out, broken}
use Rattle.port.specs.Interrupt.{status_queued}
use Rattle.port.specs.Remote.{to_local, locked_out, with_ren_on, local_now}
use Rattle.port.specs.Rows.{owing, cleared_in, clearing, clear_feature_out, clear_feature_in, effected}
use Rattle.port.specs.Device.{Device, with_state}
use Rattle.port.specs.Laws.{Stored}
use Rattle.port.specs.declared.types.Effect.{Effect}
use Rattle.port.specs.declared.types.Effect.TheVariants.{Stays, AbortsOut, AbortsIn, Clears, EndsSplit, SetsRen}
use Rattle.port.specs.declared.types.Effect.TheVariants.{GoesToLocal, LocksOut, ClearsHalt, SetsHalt, Queues}
use Rattle.port.specs.declared.types.Split.TheVariants.{None, AbortOut, AbortIn, Clear}
use Rattle.port.specs.declared.types.Remote.TheVariants.{Locs}
use Rattle.port.specs.declared.types.State.{State}
use Rattle.wire.specs.declared.types.Endpoint.TheVariants.{Out, In, Interrupt}
use Rattle.c_bytes.specs.Layout.{PORT, INTERRUPT, SPLIT, PORT_AT, OUT_MESSAGE_AT, IN_REPLY_AT, IN_HALTED_AT, INTERRUPT_AT, INTERRUPT_HALTED_AT}
use Rattle.c_bytes.specs.Layout.{UNIT, unit_bytes, SPLIT_AT, REMOTE_AT, port_bytes, interrupt_bytes, remote_number, split_bytes, state_in, unit_in}
use Rattle.c_bytes.specs.Sides.{OUT, IN, out_bytes, in_bytes}
use Rattle.c_bytes.proofs.Parted.{stores_long, bytes_long}
use Rattle.c_parts.proofs.Puts.{Holds, port_put, out_put, in_put, in_halted_put, interrupt_put, interrupt_halted_put, split_put, remote_put}
use Rattle.c_effects.specs.Does.{Does}

module _ (u u' : List ℕ) where
  does : (effect : Effect) → (Holds (unit_in u) u → Holds (with_state (unit_in u) (effected (state_in u) effect)) u') → Does u effect u'
  does effect f = record { to = λ stored e. (f (record { stored = stored; bytes = e })).bytes }

  pub stays : u' ≡ u → Does u Stays u'
  unfolding unit_in effected
  stays e = does Stays (λ h. record { stored = record { message = h.stored.message; reply = h.stored.reply }; bytes = rw e h.bytes })

  pub aborts_out : (v : List ℕ) → v ≡ paste u OUT_MESSAGE_AT (out_bytes (broken 1 (out_of (state_in u)))) OUT
      → u' ≡ paste v SPLIT_AT (split_bytes (AbortOut (out_of (state_in u)).transfer.got)) SPLIT → Does u AbortsOut u'
  unfolding unit_in effected
  aborts_out v f g = does AbortsOut (λ h. (split_put _).to ((out_put _).to h f) g)

  pub aborts_in : (v : List ℕ) → v ≡ paste u IN_REPLY_AT (in_bytes (owing (in_of (state_in u)) (in_of (state_in u)).recent)) IN
      → u' ≡ paste v SPLIT_AT (split_bytes (AbortIn (in_of (state_in u)).transfer.sent)) SPLIT → Does u AbortsIn u'
  unfolding unit_in effected
  aborts_in v f g = does AbortsIn (λ h. (split_put _).to ((in_put _).to h f) g)

  pub clears : (v w : List ℕ) → v ≡ paste u OUT_MESSAGE_AT (out_bytes (empty_out 1 0)) OUT → w ≡ paste v IN_REPLY_AT (in_bytes (cleared_in (in_of (state_in u)))) IN
      → u' ≡ paste w SPLIT_AT (split_bytes Clear) SPLIT → Does u Clears u'
  unfolding unit_in effected clearing
  clears v w f g k = does Clears (λ h. (split_put _).to ((in_put _).to ((out_put _).to h f) g) k)

  pub ends_split : u' ≡ paste u SPLIT_AT (split_bytes None) SPLIT → Does u EndsSplit u'
  unfolding unit_in effected
  ends_split f = does EndsSplit (λ h. (split_put _).to h f)

  module _ (ren : ℕ) where
    pub ren_on : ren ≡ 1 → u' ≡ paste u PORT_AT (port_bytes (with_ren (port_of (state_in u)) 1)) PORT → Does u (SetsRen ren) u'
    unfolding unit_in effected
    ren_on e f = does (SetsRen ren) (λ h. subst (λ (st : State). Holds (with_state (unit_in u) st) u') (sym (at_true _ _ _ (eq-eqb ren 1 e))) ((port_put _).to h f))

    pub ren_off : (ren ≡ 1 → ⊥) → (v : List ℕ) → v ≡ paste u PORT_AT (port_bytes (with_ren (port_of (state_in u)) 0)) PORT
        → u' ≡ paste v REMOTE_AT (remote_number Locs ∷ []) 1 → Does u (SetsRen ren) u'
    unfolding unit_in effected local_now
    ren_off e v f g = does (SetsRen ren) (λ h. subst (λ (st : State). Holds (with_state (unit_in u) st) u') (sym (at_false _ _ _ (ne_eqb ren 1 e))) ((remote_put Locs).to ((port_put _).to h f) g))

  pub goes_to_local : u' ≡ paste u REMOTE_AT (remote_number (to_local (state_in u).remote) ∷ []) 1 → Does u GoesToLocal u'
  unfolding unit_in effected
  goes_to_local f = does GoesToLocal (λ h. (remote_put _).to h f)

  pub locks_out : u' ≡ paste u REMOTE_AT (remote_number (with_ren_on locked_out (port_of (state_in u)).ren (state_in u).remote) ∷ []) 1 → Does u LocksOut u'
  unfolding unit_in effected
  locks_out f = does LocksOut (λ h. (remote_put _).to h f)

  pub clears_out : u' ≡ paste u OUT_MESSAGE_AT (out_bytes (clear_feature_out (state_in u).split (out_of (state_in u)))) OUT → Does u (ClearsHalt Out) u'
  unfolding unit_in effected
  clears_out f = does (ClearsHalt Out) (λ h. (out_put _).to h f)

  pub clears_in : u' ≡ paste u IN_REPLY_AT (in_bytes (clear_feature_in (in_of (state_in u)))) IN → Does u (ClearsHalt In) u'
  unfolding unit_in effected
  clears_in f = does (ClearsHalt In) (λ h. (in_put _).to h f)

  pub sets_out : u' ≡ paste u OUT_MESSAGE_AT (out_bytes (broken 1 (out_of (state_in u)))) OUT → Does u (SetsHalt Out) u'
  unfolding unit_in effected
  sets_out f = does (SetsHalt Out) (λ h. (out_put _).to h f)

  pub sets_in : u' ≡ paste u IN_HALTED_AT (1 ∷ []) 1 → Does u (SetsHalt In) u'
  unfolding unit_in effected
  sets_in f = does (SetsHalt In) (λ h. (in_halted_put 1).to h f)

  pub clears_interrupt : u' ≡ paste u INTERRUPT_HALTED_AT (0 ∷ []) 1 → Does u (ClearsHalt Interrupt) u'
  unfolding unit_in effected
  clears_interrupt f = does (ClearsHalt Interrupt) (λ h. (interrupt_halted_put 0).to h f)

  pub sets_interrupt : u' ≡ paste u INTERRUPT_HALTED_AT (1 ∷ []) 1 → Does u (SetsHalt Interrupt) u'
  unfolding unit_in effected
  sets_interrupt f = does (SetsHalt Interrupt) (λ h. (interrupt_halted_put 1).to h f)

  pub queues : (tag : ℕ) → u' ≡ paste u INTERRUPT_AT (interrupt_bytes (status_queued (interrupt_of (state_in u)) tag)) INTERRUPT → Does u (Queues tag) u'
  unfolding unit_in effected
  queues tag f = does (Queues tag) (λ h. (interrupt_put _).to h f)

-- ** in more bytes than a unit's

unit_long : (d : Device) → Stored d → length (unit_bytes d) ≡ UNIT
unfolding unit_bytes
unit_long d h = simp length-append (omega (arith, stores_long d h, bytes_long d.state))

pub past_unit : (u x : List ℕ) (effect : Effect) → Does (take UNIT u) effect x → Does u effect (x ++ drop UNIT u)
past_unit u x effect h = record {
  to = λ stored e.
      let long : length u ≡ UNIT = ap length e ∙ unit_long (unit_in u) stored in
      let whole : Does u effect x = subst (λ (v : List ℕ). Does v effect x) (take_all UNIT u (omega arith)) h in
      ap (λ (v : List ℕ). x ++ v) (drop_of_length-le u {i = UNIT} (omega arith)) ∙ append-nil x ∙ whole.to stored e;
}
