-- A unit and the same with just its live part answer alike, and their live parts agree again: what a call decides never looks at a dead byte
-- of a store, nor at where in its store the reply stands.
-- Assumes nothing.
use Prim.Native.Nat.{ℕ, zero, suc, ◌+◌, ◌-◌, ◌≤◌}
use mathlib.Core.Path.{◌≡◌, refl, sym, ap, ◌∙◌}
use mathlib.Core.List.{List, [], ◌∷◌, ◌++◌}
use native.Mathlib.Omega.{arith}
use lib.ListN.{length, take, drop, replicate, length-append, length-drop, length-replicate}
use lib.Seq.{take_at, take-take, length-take-le, drop-drop}
use Rattle.port.specs.Parts.{STORE, out_of, in_of}
use Rattle.port.specs.Device.{Device, Result, held_of, unsent_of, zeroed}
use Rattle.port.specs.Live.{live, alive}
use Rattle.port.specs.Laws.{Stored}
use Rattle.port.specs.Sound.{unasked, unsending, idle, asked_sound, sending_sound, phase_sound}
use Rattle.port.proofs.Soundness.{Sound, phase_of, phase_to}
use Rattle.port.proofs.KeepsOut.{out_held}
use Rattle.port.proofs.KeepsIn.{clears, in_split}

-- ** lists

-- what is left of the first n bytes after k of them
pub drop_take : (k n : ℕ) (l : List ℕ) → drop k (take n l) ≡ take (n - k) (drop k l)
drop_take zero n l = let e : n ≡ n - 0 = omega arith in ap (λ (m : ℕ). take m l) e
drop_take (suc k) zero l = let e : 0 ≡ 0 - suc k = omega arith in ap (λ (m : ℕ). take m (drop (suc k) l)) e
drop_take (suc k) (suc n) [] = sym (nothing (suc n - suc k))
  where
    nothing : (m : ℕ) → ◌≡◌ {A = List ℕ} (take m []) []
    nothing zero = refl
    nothing (suc m) = refl
drop_take (suc k) (suc n) (x ∷ l) = let e : n - k ≡ suc n - suc k = omega arith in drop_take k n l ∙ ap (λ (m : ℕ). take m (drop k l)) e

-- ** the live part of a sound unit

module _ (u : Device) (stored : Stored u) (h : Sound u.state) where
  pub held_length : length (held_of u) ≡ (out_of u.state).message.held
  held_length = length-take-le (out_of u.state).message.held u.message (let a = stored.message in let b = out_held u.state h in omega arith)

  pub unsent_length : length (unsent_of u) ≡ (in_of u.state).reply.unsent
  unsent_length = length-take-le (in_of u.state).reply.unsent (drop (in_of u.state).reply.at u.reply) (let a = stored.reply in let b = h.inward.reply in
      let c = length-drop (in_of u.state).reply.at u.reply in omega arith)

  -- the bytes of the live part stand at the front
  pub held_alive : held_of (alive (live u)) ≡ held_of u
  unfolding alive live
  held_alive = take_at (held_of u) (drop (length (held_of u)) zeroed) (out_of u.state).message.held held_length

  pub unsent_alive : unsent_of (alive (live u)) ≡ unsent_of u
  unfolding alive live
  unsent_alive = take_at (unsent_of u) (drop (length (unsent_of u)) zeroed) (in_of u.state).reply.unsent unsent_length

  filled : (l : List ℕ) → length l ≤ STORE → length (l ++ drop (length l) zeroed) ≡ STORE
  unfolding zeroed
  filled l e =
      let a = length-append l (drop (length l) (replicate STORE 0)) in
      let b = length-drop {A = ℕ} (length l) (replicate STORE 0) in
      let c = length-replicate {A = ℕ} STORE 0 in
      omega arith

  pub alive_stored : Stored (alive (live u))
  unfolding alive live
  alive_stored = record {
    message = filled (held_of u) (let a = held_length in let b = out_held u.state h in omega arith);
    reply = filled (unsent_of u) (let a = unsent_length in let b = h.inward.reply in omega arith);
  }

  pub alive_sound : Sound (alive (live u)).state
  unfolding alive live phase_sound idle unasked unsending asked_sound sending_sound
  alive_sound = record {
    port = h.port;
    out = h.out;
    inward = record {
      halted = h.inward.halted;
      reply = let r = h.inward.reply in omega arith;
      phase = phase_of _ _ (phase_to (in_of u.state).reply.unsent (in_of u.state).transfer h.inward.phase);
    };
    interrupt = h.interrupt;
    split = in_split u.state.split _ (in_of u.state) _ h.split (λ e. e) (λ e. let c = clears u.state h e in (c.unsent, c.no_in_tag, c.phase));
  }

-- ** agreement

-- the same answer, and the same live part after it
pub record Alike (r r' : Result) : Type 0 where
  pub answers : r.answer ≡ r'.answer
  pub units : live r.unit ≡ live r'.unit

pub alike : {r r' : Result} → r.answer ≡ r'.answer → live r.unit ≡ live r'.unit → Alike r r'
alike e f = record { answers = e; units = f }

rest : (l : List ℕ) (n a m : ℕ) → take (n - m) (drop (a + m) l) ≡ drop m (take n (drop a l))
rest l n a m = ap (take (n - m)) (sym (drop-drop m a l)) ∙ sym (drop_take m n (drop a l))

-- what the live part says of the counts
twin_held : (u : Device) (j : ℕ) → j ≤ (out_of u.state).message.held → take j (held_of (alive (live u))) ≡ take j (alive (live u)).message
unfolding alive live
twin_held u j e = take-take j (out_of u.state).message.held _ e

twin_rest : (u : Device) (k : ℕ) → take ((in_of u.state).reply.unsent - k) (drop ((in_of (alive (live u)).state).reply.at + k) (alive (live u)).reply) ≡ drop k (unsent_of (alive (live u)))
unfolding alive live
twin_rest u k = rest _ (in_of u.state).reply.unsent 0 k

module _ (u : Device) (stored : Stored u) (h : Sound u.state) where
  abbrev pub twin : Device
  twin = alive (live u)

  -- any beginning of the message, and what is left of the reply
  pub same_message : (j : ℕ) → j ≤ (out_of u.state).message.held → take j u.message ≡ take j twin.message
  same_message j e =
      sym (take-take j (out_of u.state).message.held u.message e) ∙ ap (take j) (sym (held_alive u stored h)) ∙ twin_held u j e

  pub same_reply : (k : ℕ) → take ((in_of u.state).reply.unsent - k) (drop ((in_of u.state).reply.at + k) u.reply) ≡ take ((in_of u.state).reply.unsent - k)
      (drop ((in_of twin.state).reply.at + k) twin.reply)
  same_reply k = rest u.reply (in_of u.state).reply.unsent (in_of u.state).reply.at k ∙ ap (drop k) (sym (unsent_alive u stored h)) ∙ sym (twin_rest u k)
