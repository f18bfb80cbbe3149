-- Where the parts of a unit stand: the stores in front, and behind them what `bytes_of` has.
-- Assumes nothing.
use Prim.Native.Nat.{ℕ, zero, suc, ◌+◌, ◌-◌, ◌≤◌, ◌<◌}
use mathlib.Core.Path.{◌≡◌, refl, ap, ◌∙◌}
use mathlib.Core.List.{List, [], ◌∷◌, ◌++◌, append_assoc}
use native.Mathlib.Omega.{arith}
use lib.ListN.{length, take, drop, length-append, length-drop}
use lib.Seq.{take_at, drop_at, take_all, take-add, drop-cons, length-take-le, get_or-drop, drop-append-add, get_or-append-add}
use Rattle.wire.specs.Bytes.{byte}
use Rattle.port.specs.Parts.{STORE}
use Rattle.port.specs.Device.{Device}
use Rattle.port.specs.Laws.{Stored}
use Rattle.port.specs.declared.types.State.{State}
use Rattle.c_bytes.specs.Layout.{REPLY_AT, PORT_AT, UNIT, part, state_bytes, unit_in, unit_bytes, Bytes}
use Rattle.c_bytes.specs.Sides.{STATE}

pub bytes_long : (st : State) → length (state_bytes st) ≡ STATE
unfolding state_bytes
bytes_long st = refl

-- a unit shut, by what stands where
module _ (d : Device) (h : Stored d) where
  pub stores_long : length (d.message ++ d.reply) ≡ PORT_AT
  stores_long = simp length-append (omega (arith, h.message, h.reply))

  pub message_of_bytes : part 0 STORE (unit_bytes d) ≡ d.message
  unfolding unit_bytes
  message_of_bytes = rw (append_assoc d.message d.reply) (take_at d.message _ STORE h.message)

  pub reply_of_bytes : part REPLY_AT STORE (unit_bytes d) ≡ d.reply
  unfolding unit_bytes
  reply_of_bytes = rw (append_assoc d.message d.reply, drop_at d.message _ STORE h.message) (take_at d.reply _ STORE h.reply)

  k : (at : ℕ) → PORT_AT ≤ at → at ≡ length (d.message ++ d.reply) + (at - PORT_AT)
  k at past = omega (arith, stores_long)

  pub part_of_bytes : (at n : ℕ) → PORT_AT ≤ at → part at n (unit_bytes d) ≡ part (at - PORT_AT) n (state_bytes d.state)
  unfolding unit_bytes
  part_of_bytes at n past = ap (λ (j : ℕ). take n (drop j (unit_bytes d))) (k at past) ∙ ap (take n) (drop-append-add (d.message ++ d.reply) _ (at - PORT_AT))

  pub byte_of_bytes : (at : ℕ) → PORT_AT ≤ at → byte (unit_bytes d) at ≡ byte (state_bytes d.state) (at - PORT_AT)
  unfolding unit_bytes
  byte_of_bytes at past = ap (byte (unit_bytes d)) (k at past) ∙ get_or-append-add (d.message ++ d.reply) _ (at - PORT_AT) 0

take_small : (n : ℕ) (u : List ℕ) → ((i : ℕ) → byte u i < 256) → (i : ℕ) → byte (take n u) i < 256
take_small zero u h i = omega arith
take_small (suc n) [] h i = omega arith
take_small (suc n) (x ∷ u) h zero = h 0
take_small (suc n) (x ∷ u) h (suc i) = take_small n u (λ j. h (suc j)) i

pub part_small : (at n : ℕ) (u : List ℕ) → Bytes u → Bytes (part at n u)
part_small at n u h = record { small = take_small n (drop at u) (λ i. rw (get_or-drop at u i 0) (h.small (at + i))) }

-- a list by its elements from j on
abbrev pub from : List ℕ → ℕ → ℕ → List ℕ
from u j zero = []
from u j (suc n) = byte u j ∷ from u (suc j) n

pub part_long : (at n : ℕ) (u : List ℕ) → at + n ≤ length u → length (part at n u) ≡ n
part_long at n u h = length-take-le n (drop at u) (simp length-drop (omega arith))

pub spelt : (at n : ℕ) (u : List ℕ) → at + n ≤ length u → part at n u ≡ from u at n
spelt at zero u h = refl
spelt at (suc n) u h = ap (take (suc n)) (drop-cons u at 0 (omega arith)) ∙ ap (λ (g : List ℕ). byte u at ∷ g) (spelt (suc at) n u (omega arith))

pub unit_stored : (u : List ℕ) → UNIT ≤ length u → Stored (unit_in u)
unfolding unit_in
unit_stored u long = record { message = part_long 0 STORE u (omega arith); reply = part_long REPLY_AT STORE u (omega arith) }

-- the bytes of a unit, in three
pub parted : (u : List ℕ) → length u ≡ UNIT → part 0 STORE u ++ part REPLY_AT STORE u ++ part PORT_AT STATE u ≡ u
parted u long = rw (← take-add STORE STORE u, ← take-add PORT_AT STATE u) (take_all UNIT u (omega arith))
