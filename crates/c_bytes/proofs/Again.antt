-- A unit shut and opened again is the unit; bytes that are a unit's, opened and shut again, are the bytes. By parts.
-- Assumes nothing.
use Prim.Native.Nat.{ℕ, zero, suc, ◌+◌, ◌-◌, ◌*◌, ◌/◌, ◌%◌, ◌≤◌, ◌<◌}
use mathlib.Core.Path.{◌≡◌, refl, sym, ap, ◌∙◌}
use mathlib.Core.Bool.{true}
use mathlib.Core.List.{List, [], ◌∷◌, ◌++◌}
use native.Mathlib.Omega.{arith}
use lib.ListN.{length}
use lib.Seq.{take_all}
use borrow.Author.Tests.{eqb-true, leb-true}
use Rattle.rules.specs.Choice.{◌=ᵇ◌, ◌≤ᵇ◌, ◌or◌, ◌&◌}
use Rattle.rules.proofs.Choice.{all_of}
use Rattle.wire.specs.Bytes.{byte, number2, bytes2}
use Rattle.port.specs.Parts.{STORE, port_of, out_of, in_of}
use Rattle.port.specs.Device.{Device}
use Rattle.port.specs.Laws.{Stored}
use Rattle.port.specs.declared.types.Port.{Port}
use Rattle.port.specs.declared.types.OutMessage.{OutMessage}
use Rattle.port.specs.declared.types.OutTransfer.{OutTransfer}
use Rattle.port.specs.declared.types.InReply.{InReply}
use Rattle.port.specs.declared.types.InTransfer.{InTransfer}
use Rattle.port.specs.declared.types.Split.{Split}
use Rattle.port.specs.declared.types.Split.TheVariants.{None, AbortOut, AbortIn, Clear}
use Rattle.port.specs.declared.types.Remote.{Remote}
use Rattle.port.specs.declared.types.Remote.TheVariants.{Locs, Rems, Lwls, Rwls}
use Rattle.port.specs.declared.types.State.{State}
use Rattle.c_bytes.proofs.Parted.{message_of_bytes, reply_of_bytes, part_of_bytes, byte_of_bytes, part_small, part_long, from, spelt, parted}
use Rattle.c_bytes.specs.Layout.{PORT, OUT_MESSAGE, OUT_TRANSFER, IN_REPLY, IN_TRANSFER, INTERRUPT, SPLIT, REPLY_AT, PORT_AT, OUT_MESSAGE_AT}
use Rattle.c_bytes.specs.Layout.{OUT_HALTED_AT, OUT_TRANSFER_AT, OUT_RECENT_AT, IN_REPLY_AT, IN_TRANSFER_AT, IN_HALTED_AT, IN_RECENT_AT}
use Rattle.c_bytes.specs.Layout.{INTERRUPT_AT, SPLIT_AT, REMOTE_AT, UNIT, split_of, split_number, count_of, remote_of, remote_number}
use Rattle.c_bytes.specs.Layout.{port_in, out_message_in, out_transfer_in, in_reply_in, in_transfer_in, interrupt_in, split_in, port_bytes, out_message_bytes}
use Rattle.c_bytes.specs.Layout.{out_transfer_bytes, in_reply_bytes, in_transfer_bytes, interrupt_bytes, split_bytes, part, state_in, unit_in}
use Rattle.c_bytes.specs.Layout.{state_bytes, unit_bytes, is_abort, is_split, is_unit, Bytes}
use Rattle.c_bytes.specs.Sides.{STATE}

-- ** there and back

-- a number of 16 bits
abbrev pub Narrow16 : ℕ → Type 0
Narrow16 n = n < 65536

again : (n : ℕ) → Narrow16 n → n % 256 + 256 * (n / 256 % 256) ≡ n
again n h = omega (arith, h)

pub port_there : (p : Port) → Narrow16 p.setting.packet → port_in (port_bytes p) ≡ p
port_there p h = rw (again p.setting.packet h)

pub out_message_there : (m : OutMessage) → Narrow16 m.held → out_message_in (out_message_bytes m) ≡ m
out_message_there m h = rw (again m.held h)

pub out_transfer_there : (t : OutTransfer) → Narrow16 t.left → Narrow16 t.got → out_transfer_in (out_transfer_bytes t) ≡ t
out_transfer_there t h k = rw (again t.left h, again t.got k)

pub in_reply_there : (r : InReply) → Narrow16 r.at → Narrow16 r.unsent → in_reply_in (in_reply_bytes r) ≡ r
in_reply_there r h k = rw (again r.at h, again r.unsent k)

pub in_transfer_there : (t : InTransfer) → Narrow16 t.asked → Narrow16 t.left → Narrow16 t.sent → in_transfer_in (in_transfer_bytes t) ≡ t
in_transfer_there t h k l = rw (again t.asked h, again t.left k, again t.sent l)

split_again : (s : Split) → split_of (count_of s) (split_number s) ≡ s
unfolding split_of split_number count_of
split_again None = refl
split_again (AbortOut count) = refl
split_again (AbortIn count) = refl
split_again Clear = refl

pub split_there : (s : Split) → Narrow16 (count_of s) → split_in (split_bytes s) ≡ s
split_there s h = rw (again (count_of s) h) (split_again s)

pub remote_there : (r : Remote) → remote_of (remote_number r) ≡ r
unfolding remote_of remote_number
remote_there Locs = refl
remote_there Rems = refl
remote_there Lwls = refl
remote_there Rwls = refl

-- the numbers of 16 bits of a state
pub record Narrow (st : State) : Type 0 where
  pub packet : Narrow16 (port_of st).setting.packet
  pub held : Narrow16 (out_of st).message.held
  pub left : Narrow16 (out_of st).transfer.left
  pub got : Narrow16 (out_of st).transfer.got
  pub at : Narrow16 (in_of st).reply.at
  pub unsent : Narrow16 (in_of st).reply.unsent
  pub asked : Narrow16 (in_of st).transfer.asked
  pub to_go_lem : Narrow16 (in_of st).transfer.left
  pub sent : Narrow16 (in_of st).transfer.sent
  pub count : Narrow16 (count_of st.split)

-- what a unit has that its bytes can hold
pub record Fits (d : Device) : Type 0 where
  pub stored : Stored d
  pub narrow : Narrow d.state

pub state_there : (d : Device) → Fits d → state_in (unit_bytes d) ≡ d.state
unfolding state_in state_bytes
state_there d fit =
    let st = d.state in
    let n = fit.narrow in
    let at = part_of_bytes d fit.stored in
    let one = byte_of_bytes d fit.stored in
    rw (
      at PORT_AT PORT (omega arith),
      at OUT_MESSAGE_AT OUT_MESSAGE (omega arith),
      at OUT_TRANSFER_AT OUT_TRANSFER (omega arith),
      at IN_REPLY_AT IN_REPLY (omega arith),
      at IN_TRANSFER_AT IN_TRANSFER (omega arith),
      at INTERRUPT_AT INTERRUPT (omega arith),
      at SPLIT_AT SPLIT (omega arith),
      one REMOTE_AT (omega arith),
      one OUT_HALTED_AT (omega arith),
      one OUT_RECENT_AT (omega arith),
      one IN_HALTED_AT (omega arith),
      one IN_RECENT_AT (omega arith),
      port_there (port_of st) n.packet,
      out_message_there (out_of st).message n.held,
      out_transfer_there (out_of st).transfer n.left n.got,
      in_reply_there (in_of st).reply n.at n.unsent,
      in_transfer_there (in_of st).transfer n.asked n.to_go_lem n.sent,
      split_there st.split n.count,
      remote_there st.remote,
    )

pub unit_in_its_bytes : (d : Device) → Fits d → unit_in (unit_bytes d) ≡ d
unfolding unit_in
unit_in_its_bytes d h = λ i. record { message = message_of_bytes d h.stored i; reply = reply_of_bytes d h.stored i; state = state_there d h i }

-- ** back and there

low_again : (a b : ℕ) → a < 256 → (a + 256 * b) % 256 ≡ a
low_again a b h = omega (arith, h)

high_again : (a b : ℕ) → a < 256 → b < 256 → (a + 256 * b) / 256 % 256 ≡ b
high_again a b h k = omega (arith, h, k)

two : (f : List ℕ) → Bytes f → (i : ℕ) → bytes2 (number2 f i) ≡ byte f i ∷ byte f (i + 1) ∷ []
two f h i = λ j. low_again (byte f i) (byte f (i + 1)) (h.small i) j ∷ high_again (byte f i) (byte f (i + 1)) (h.small i) (h.small (i + 1)) j ∷ []

-- of a list with the part's length whose elements are bytes
abbrev Back : ℕ → (List ℕ → List ℕ) → Type 0
Back n again = (f : List ℕ) → length f ≡ n → Bytes f → again f ≡ f

whole : (n : ℕ) (f : List ℕ) → length f ≡ n → from f 0 n ≡ f
whole n f e = sym (spelt 0 n f (omega arith)) ∙ take_all n f (omega arith)

pub port_back : Back PORT (λ f. port_bytes (port_in f))
port_back f e h = (λ i. two f h 0 i ++ from f 2 (PORT - 2)) ∙ whole PORT f e

pub out_message_back : Back OUT_MESSAGE (λ f. out_message_bytes (out_message_in f))
out_message_back f e h = (λ i. two f h 0 i ++ from f 2 (OUT_MESSAGE - 2)) ∙ whole OUT_MESSAGE f e

pub out_transfer_back : Back OUT_TRANSFER (λ f. out_transfer_bytes (out_transfer_in f))
out_transfer_back f e h = (λ i. two f h 0 i ++ two f h 2 i ++ from f 4 (OUT_TRANSFER - 4)) ∙ whole OUT_TRANSFER f e

pub in_reply_back : Back IN_REPLY (λ f. in_reply_bytes (in_reply_in f))
in_reply_back f e h = (λ i. two f h 0 i ++ two f h 2 i) ∙ whole IN_REPLY f e

pub in_transfer_back : Back IN_TRANSFER (λ f. in_transfer_bytes (in_transfer_in f))
in_transfer_back f e h = (λ i. two f h 0 i ++ two f h 2 i ++ two f h 4 i ++ from f 6 (IN_TRANSFER - 6)) ∙ whole IN_TRANSFER f e

pub interrupt_back : Back INTERRUPT (λ f. interrupt_bytes (interrupt_in f))
interrupt_back f e h = whole INTERRUPT f e

split_again_bytes : (count k : ℕ) → k ≤ 3 → (is_abort k or count =ᵇ 0) ≡ true → split_bytes (split_of count k) ≡ bytes2 count ++ k ∷ []
unfolding split_of split_number count_of ◌or◌
split_again_bytes count zero h e = rw (eqb-true count 0 e)
split_again_bytes count (suc zero) h e = refl
split_again_bytes count (suc (suc zero)) h e = refl
split_again_bytes count (suc (suc (suc zero))) h e = rw (eqb-true count 0 e)
split_again_bytes count (suc (suc (suc (suc k)))) h e = absurd (omega arith)

pub split_back : (f : List ℕ) → length f ≡ SPLIT → Bytes f → is_split f ≡ true → split_bytes (split_in f) ≡ f
split_back f e h is =
    let t = all_of (byte f 2 ≤ᵇ 3 & (is_abort (byte f 2) or number2 f 0 =ᵇ 0) & []) is in
    split_again_bytes (number2 f 0) (byte f 2) (leb-true (byte f 2) 3 t.0) t.1.0
    ∙ (λ i. two f h 0 i ++ from f 2 (SPLIT - 2))
    ∙ whole SPLIT f e

pub remote_back : (p : ℕ) → p ≤ 3 → remote_number (remote_of p) ≡ p
unfolding remote_of remote_number
remote_back zero h = refl
remote_back (suc zero) h = refl
remote_back (suc (suc zero)) h = refl
remote_back (suc (suc (suc zero))) h = refl
remote_back (suc (suc (suc (suc p)))) h = absurd (omega arith)

pub bytes_of_its_unit : (u : List ℕ) → length u ≡ UNIT → Bytes u → is_unit u ≡ true → unit_bytes (unit_in u) ≡ u
unfolding unit_in unit_bytes state_in state_bytes is_unit
bytes_of_its_unit u long small is =
    let t = all_of (byte u REMOTE_AT ≤ᵇ 3 & is_split (part SPLIT_AT SPLIT u) & []) is in
    ap (λ (f : List ℕ). part 0 STORE u ++ part REPLY_AT STORE u ++ f)
    ((λ i.
    at PORT_AT PORT (omega arith) _ port_back i ++
    at OUT_MESSAGE_AT OUT_MESSAGE (omega arith) _ out_message_back i ++
    byte u OUT_HALTED_AT ∷
    at OUT_TRANSFER_AT OUT_TRANSFER (omega arith) _ out_transfer_back i ++
    byte u OUT_RECENT_AT ∷
    at IN_REPLY_AT IN_REPLY (omega arith) _ in_reply_back i ++
    at IN_TRANSFER_AT IN_TRANSFER (omega arith) _ in_transfer_back i ++
    byte u IN_HALTED_AT ∷ byte u IN_RECENT_AT ∷
    at INTERRUPT_AT INTERRUPT (omega arith) _ interrupt_back i ++
    (split_back (part SPLIT_AT SPLIT u) (part_long SPLIT_AT SPLIT u (omega arith)) (part_small SPLIT_AT SPLIT u small) t.1.0 ∙ spelt SPLIT_AT SPLIT u (omega arith)) i ++
    remote_back (byte u REMOTE_AT) (leb-true (byte u REMOTE_AT) 3 t.0) i ∷ [])
    ∙ sym (spelt PORT_AT STATE u (omega arith)))
    ∙ parted u long
  where
    at : (a n : ℕ) → a + n ≤ length u → (again : List ℕ → List ℕ) → Back n again → again (part a n u) ≡ from u a n
    at a n h again back = back (part a n u) (part_long a n u h) (part_small a n u small) ∙ spelt a n u h
