-- The twelve bytes of a header, one by one; and that a header is read from them and from the packet's length alone.
-- Assumes nothing.
use Prim.Native.Nat.{ℕ, ◌≤◌}
use mathlib.Core.Path.{◌≡◌, refl, sym, ap, ◌∙◌}
use mathlib.Core.Bool.{true}
use mathlib.Core.List.{List, [], ◌∷◌, ◌++◌}
use mathlib.Core.Logic.{⊎_elim}
use native.Mathlib.Omega.{arith}
use lib.ListN.{length, take, drop, length-drop}
use lib.Seq.{take_all, get_or-take}
use borrow.Author.Tests.{ltb-true}
use Rattle.rules.specs.Choice.{◌<ᵇ◌}
use Rattle.rules.proofs.When.{is_less, decided}
use Rattle.wire.specs.Bytes.{number4, zeros}
use Rattle.wire.specs.Header.{read_message, read_request, read_trigger, read_header}
use Rattle.wire.specs.When.{at}

pub twelve : (s : List ℕ) → 12 ≤ length s
    → s ≡ (at s 0 ∷ at s 1 ∷ at s 2 ∷ at s 3 ∷ at s 4 ∷ at s 5 ∷ at s 6 ∷ at s 7 ∷ at s 8 ∷ at s 9 ∷ at s 10 ∷ at s 11 ∷ []) ++ drop 12 s
twelve (a ∷ b ∷ c ∷ d ∷ e ∷ f ∷ g ∷ h ∷ i ∷ j ∷ k ∷ l ∷ s) n = refl
twelve [] n = absurd (omega arith)
twelve (a ∷ []) n = absurd (omega arith)
twelve (a ∷ b ∷ []) n = absurd (omega arith)
twelve (a ∷ b ∷ c ∷ []) n = absurd (omega arith)
twelve (a ∷ b ∷ c ∷ d ∷ []) n = absurd (omega arith)
twelve (a ∷ b ∷ c ∷ d ∷ e ∷ []) n = absurd (omega arith)
twelve (a ∷ b ∷ c ∷ d ∷ e ∷ f ∷ []) n = absurd (omega arith)
twelve (a ∷ b ∷ c ∷ d ∷ e ∷ f ∷ g ∷ []) n = absurd (omega arith)
twelve (a ∷ b ∷ c ∷ d ∷ e ∷ f ∷ g ∷ h ∷ []) n = absurd (omega arith)
twelve (a ∷ b ∷ c ∷ d ∷ e ∷ f ∷ g ∷ h ∷ i ∷ []) n = absurd (omega arith)
twelve (a ∷ b ∷ c ∷ d ∷ e ∷ f ∷ g ∷ h ∷ i ∷ j ∷ []) n = absurd (omega arith)
twelve (a ∷ b ∷ c ∷ d ∷ e ∷ f ∷ g ∷ h ∷ i ∷ j ∷ k ∷ []) n = absurd (omega arith)

-- what is behind the twelve bytes tells by its length alone
behind : (a b c d e f g h i j k l : ℕ) (r q : List ℕ) → length r ≡ length q
    → read_header (a ∷ b ∷ c ∷ d ∷ e ∷ f ∷ g ∷ h ∷ i ∷ j ∷ k ∷ l ∷ r) ≡ read_header (a ∷ b ∷ c ∷ d ∷ e ∷ f ∷ g ∷ h ∷ i ∷ j ∷ k ∷ l ∷ q)
unfolding read_header read_message read_request read_trigger number4 zeros
behind a b c d e f g h i j k l r q same = rw same

pub read_alike : (s t : List ℕ) → length s ≡ length t → take 12 s ≡ take 12 t → read_header s ≡ read_header t
read_alike s t long same =
    ⊎_elim
    (λ less.
    ap read_header (sym (take_all 12 s (omega arith)) ∙ same ∙ take_all 12 t (omega arith)))
    (λ enough.
    let m = length-drop 12 s in
    let n = length-drop 12 t in
    ap read_header (twelve s (omega arith))
    ∙ behind _ _ _ _ _ _ _ _ _ _ _ _ (drop 12 s) (drop 12 t) (omega arith)
    ∙ (λ i. read_header ((b 0 refl i ∷ b 1 refl i ∷ b 2 refl i ∷ b 3 refl i ∷ b 4 refl i ∷ b 5 refl i ∷ b 6 refl i ∷ b 7 refl i ∷ b 8 refl i ∷ b 9 refl i
    ∷ b 10 refl i ∷ b 11 refl i ∷ []) ++ drop 12 t))
    ∙ ap read_header (sym (twelve t (omega arith))))
    (decided _ (is_less (length s) 12))
  where
    b : (i : ℕ) → (i <ᵇ 12) ≡ true → at s i ≡ at t i
    b i e = sym (get_or-take 12 s i 0 (ltb-true i 12 e)) ∙ ap (λ (l : List ℕ). at l i) same ∙ get_or-take 12 t i 0 (ltb-true i 12 e)

-- each kind of header is read from the twelve bytes
module _ (s : List ℕ) (long : 12 ≤ length s) where
  front : take 12 s ≡ (at s 0 ∷ at s 1 ∷ at s 2 ∷ at s 3 ∷ at s 4 ∷ at s 5 ∷ at s 6 ∷ at s 7 ∷ at s 8 ∷ at s 9 ∷ at s 10 ∷ at s 11 ∷ [])
  front = ap (take 12) (twelve s long)

  pub message_front : read_message (take 12 s) ≡ read_message s
  unfolding read_message number4 zeros
  message_front = ap read_message front ∙ sym (ap read_message (twelve s long))

  pub request_front : read_request (take 12 s) ≡ read_request s
  unfolding read_request number4 zeros
  request_front = ap read_request front ∙ sym (ap read_request (twelve s long))

  pub trigger_front : read_trigger (take 12 s) ≡ read_trigger s
  unfolding read_trigger number4 zeros
  trigger_front = ap read_trigger front ∙ sym (ap read_trigger (twelve s long))
