-- What a step hands over, with soundness asked first: what holds of a sound unit, and of another.
-- Assumes nothing.
use Prim.Native.Nat.{ℕ}
use mathlib.Core.Path.{◌≡◌, refl, ap, ◌∙◌, subst}
use mathlib.Core.Bool.{true, false}
use mathlib.Core.List.{List}
use Rattle.rules.specs.Choice.{pick}
use Rattle.rules.specs.declared.refusal.Refusal.TheVariants.{Unsound}
use Rattle.rules.proofs.Choice.{pick_true, pick_false}
use Rattle.port.specs.Sound.{sound}
use Rattle.port.specs.Answer.{Said, refuse}
use Rattle.port.specs.Given.{given_of, Hands}
use Rattle.port.specs.declared.types.Given.{Given}
use Rattle.port.specs.declared.types.State.{State}

pub hands_by : (r : Given) (before after : List ℕ) {said said' : Said} → said ≡ said' → Hands said r before after → Hands said' r before after
hands_by r before after e = subst (λ (x : Said). Hands x r before after) e

module _ (st : State) (said : Said) where
  pub sound_hands : (r : Given) (before after : List ℕ) → sound st ≡ true → Hands said r before after → Hands (pick (sound st) said (refuse st Unsound)) r before after
  sound_hands r before after e = hands_by r before after (pick_true _ _ _ _ e refl)

  pub unsound_hands : (r : Given) (before : List ℕ) → sound st ≡ false → r ≡ given_of (refuse st Unsound) → Hands (pick (sound st) said (refuse st Unsound)) r before before
  unsound_hands r before e f = hands_by r before before (pick_false _ _ _ _ e refl) (f, refl)

-- the same where no buffer is lent
module _ (st : State) (said : Said) (g : Given) where
  pub unsound_given : g ≡ given_of (refuse st Unsound) → sound st ≡ false → g ≡ given_of (pick (sound st) said (refuse st Unsound))
  unsound_given e u = e ∙ ap given_of (pick_false (refuse st Unsound) _ _ _ u refl)

  pub sound_given : sound st ≡ true → (x : Said) → g ≡ given_of x → x ≡ said → g ≡ given_of (pick (sound st) said (refuse st Unsound))
  sound_given s x e f = e ∙ ap given_of (pick_true x _ _ _ s f)
