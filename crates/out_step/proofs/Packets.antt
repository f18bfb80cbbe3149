-- Every outcome of a packet on a sound unit can be carried out: its data can be absorbed, stands in the packet and has room behind what is held.
-- Assumes nothing.
use Prim.Native.Nat.{ℕ, ◌+◌, ◌-◌, ◌≤◌, min}
use mathlib.Core.Path.{◌≡◌, refl, sym, ap, ◌∙◌, subst}
use mathlib.Core.Bool.{true}
use mathlib.Core.List.{List}
use mathlib.Core.Logic.{inl, inr}
use native.Mathlib.Omega.{arith}
use lib.ListN.{length}
use lib.Seq.{paste, paste-zero}
use borrow.Author.Tests.{ltb-false}
use Rattle.rules.specs.Choice.{◌=ᵇ◌}
use Rattle.rules.proofs.Choice.{neb_ne, pick_all, decide_all}
use Rattle.wire.specs.Header.{HEADER, read_header}
use Rattle.wire.specs.declared.types.Header.{Header}
use Rattle.wire.specs.declared.types.Header.TheVariants.{Message, Request, Trigger}
use Rattle.wire.specs.Header.{Read}
use Rattle.std.specs.Prelude.{Ok, Err}
use Rattle.wire.proofs.Lawful.{Reads, header_lawful}
use Rattle.port.specs.Parts.{STORE, is_open_out, packet_size, out_of}
use Rattle.port.specs.Sound.{sound}
use Rattle.port.specs.Out.{keep_of, halt_of, more_rules, more, data_length, header_rules, header_says, out_rules, outcome, accepted, planned}
use Rattle.port.specs.Out.{CanAbsorb, CanAccept, Can, Room}
use Rattle.port.proofs.Soundness.{OutSound, sound_of}
use Rattle.port.specs.declared.types.State.{State}
use Rattle.port.specs.declared.types.Plan.{Plan}
use Rattle.port.specs.declared.types.Outcome.{Outcome}
use Rattle.port.specs.declared.types.Outcome.TheVariants.{Keep, Halt, Data, Accept}

-- ** every outcome can be carried out

module _ (st : State) (s : List ℕ) where
  -- what is known of the data of an outcome: it can be absorbed, and it stands in the packet
  unfoldable pub Carried : Outcome → Type 0
  Carried (Keep number) = Unit {0}
  Carried (Halt number) = Unit {0}
  Carried (Data count) = CanAbsorb (out_of st) count × (count ≤ length s)
  Carried (Accept h count) = CanAccept st h count × (count ≤ length s - HEADER) × (HEADER ≤ length s)

  more_carried : OutSound (out_of st) → ((out_of st).transfer.left ≡ 0 → ⊥) → Carried (more (packet_size st) (out_of st).transfer.left s)
  unfolding more Carried
  more_carried (inl w) e = let r = w.1.room in let g = w.1.within in decide_all Carried halt_of (more_rules (packet_size st) (out_of st).transfer.left s) _ (tt, (tt, tt))
      (λ _. ((omega arith, omega arith, omega arith), omega arith))
  more_carried (inr w) e = absurd (e w.0)

  accept_carried : (h : Header) → (out_of st).message.held + data_length h ≤ STORE → HEADER ≤ length s → Carried (Accept h (min (data_length h) (length s - HEADER)))
  unfolding Carried
  accept_carried (Message tag size end) e l = ((omega arith, omega arith, omega arith), omega arith, l)
  accept_carried (Request tag size enabled term) e l = (tt, omega arith, l)
  accept_carried (Trigger tag) e l = (tt, omega arith, l)

  header_carried : (r : Read) → Reads s r → Carried (header_says st s r)
  unfolding header_says Carried
  header_carried (Err number) h = tt
  header_carried (Ok h) l = decide_all Carried halt_of (header_rules st s h) _ (tt, (tt, (tt, tt))) (λ n. accept_carried h (ltb-false STORE _ n.1.0) l.0)

  pub outcome_carried : sound st ≡ true → Carried (outcome st s)
  unfolding outcome Carried
  outcome_carried h =
      decide_all Carried keep_of (out_rules st (length s)) _ (tt, (tt, (tt, (tt, tt))))
      (λ _. pick_all Carried (is_open_out (out_of st)) _ _ (λ e. more_carried (sound_of st h).out (neb_ne _ _ e))
      (λ _. pick_all Carried (length s =ᵇ 0) _ _ (λ _. tt) (λ _. header_carried (read_header s) (header_lawful s))))

  can : (x : Outcome) → Carried x → Can st x
  unfolding Carried
  can (Keep number) h = tt
  can (Halt number) h = tt
  can (Data count) h = h.0
  can (Accept h count) k = k.0

  pub outcome_can : sound st ≡ true → Can st (outcome st s)
  outcome_can h = can (outcome st s) (outcome_carried h)

  room : (x : Outcome) → Carried x → Room st s (planned st x)
  unfolding planned Carried accepted
  room (Keep number) h = (omega arith, λ e. absurd (e refl))
  room (Halt number) h = (omega arith, λ e. absurd (e refl))
  room (Data count) h = (omega arith, λ _. let c = h.0 in omega arith)
  room (Accept (Message tag size end) count) h = (omega arith, λ _. let c = h.0 in omega arith)
  room (Accept (Request tag size enabled term) count) h = (omega arith, λ e. absurd (e refl))
  room (Accept (Trigger tag) count) h = (omega arith, λ e. absurd (e refl))

  pub planned_room : (x : Outcome) (plan : Plan) → sound st ≡ true → plan ≡ planned st x → x ≡ outcome st s → Room st s plan
  planned_room x plan h e f = subst (Room st s) (sym (e ∙ ap (planned st) f)) (room (outcome st s) (outcome_carried h))

-- ** the message store

-- a copy of no bytes
pub nothing_pasted : (d : List ℕ) (at : ℕ) (s : List ℕ) (n : ℕ) → n ≡ 0 → d ≡ paste d at s n
nothing_pasted d at s n e = rw e (paste-zero d at s)
