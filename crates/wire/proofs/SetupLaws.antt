-- What a setup packet that matches a row says: a configuration value is 0 or 1, and the tag of READ_STATUS_BYTE is from 2 to 127.
-- Assumes nothing.
use Prim.Native.Nat.{ℕ, ◌≤◌}
use mathlib.Core.Path.{◌≡◌, refl, ap}
use mathlib.Core.List.{List, [], ◌∷◌}
use mathlib.Core.Logic.{inl, inr}
use mathlib.Core.Bool.{true}
use native.Mathlib.Omega.{arith}
use borrow.Author.Tests.{leb-true}
use Rattle.std.specs.Prelude.{Option, Some, None, IfSome}
use Rattle.rules.specs.Choice.{◌=ᵇ◌, ◌≤ᵇ◌, ◌&◌}
use Rattle.rules.proofs.Choice.{pick_both, all_of}
use Rattle.wire.specs.Bytes.{byte}
use Rattle.wire.specs.Setup.{wValue, wIndex, wLength, fitting, matches, row, read_setup}
use Rattle.wire.specs.When.{two_at, Column, rows, Matches, RowOf}
use Rattle.wire.proofs.When.{setup_law}
use Rattle.wire.specs.declared.types.Row.{Row}
use Rattle.wire.specs.declared.types.Row.TheVariants.{InitiateAbortBulkOut, CheckAbortBulkOutStatus, InitiateAbortBulkIn, CheckAbortBulkInStatus}
use Rattle.wire.specs.declared.types.Row.TheVariants.{InitiateClear, CheckClearStatus, GetCapabilities, IndicatorPulse, ReadStatusByte}
use Rattle.wire.specs.declared.types.Row.TheVariants.{RenControl, GoToLocal, LocalLockout, ClearFeature, SetFeature, GetStatus}
use Rattle.wire.specs.declared.types.Setup.{Setup}
use Rattle.wire.specs.declared.types.Setup.TheVariants.{Configure, Asks}

abbrev pub Tagged : Row → Type 0
Tagged (InitiateAbortBulkOut tag) = Unit {0}
Tagged CheckAbortBulkOutStatus = Unit {0}
Tagged (InitiateAbortBulkIn tag) = Unit {0}
Tagged CheckAbortBulkInStatus = Unit {0}
Tagged InitiateClear = Unit {0}
Tagged CheckClearStatus = Unit {0}
Tagged GetCapabilities = Unit {0}
Tagged IndicatorPulse = Unit {0}
Tagged (ReadStatusByte tag) = (2 ≤ tag) × (tag ≤ 127)
Tagged (RenControl ren) = Unit {0}
Tagged GoToLocal = Unit {0}
Tagged LocalLockout = Unit {0}
Tagged (ClearFeature endpoint) = Unit {0}
Tagged (SetFeature endpoint) = Unit {0}
Tagged (GetStatus endpoint) = Unit {0}

abbrev pub InRange : Setup → Type 0
InRange (Configure value) = value ≤ 1
InRange (Asks row) = Tagged row

-- every row of the table says so
abbrev Ranged : List (Column × (ℕ → Setup)) → Type 0
Ranged [] = Unit {0}
Ranged (r ∷ rs) = ((v : ℕ) → r.0.low ≤ v → v ≤ r.0.high → InRange (r.1 v)) × Ranged rs

ranged : Ranged rows
ranged = (any, (any, (any, (any, (any, (any, (any, (any, ((λ v l h. (l, h)), (any, (any, (any, (any, (any, (any, (any, (any, (any, (any, (any, (any, ((λ v l h. h), tt))))))))))))))))))))))
  where
    any : {low high : ℕ} → (v : ℕ) → low ≤ v → v ≤ high → Unit {0}
    any v l h = tt

matched : (s : List ℕ) (rs : List (Column × (ℕ → Setup))) → Ranged rs → (x : Setup) → Matches s rs x → InRange x
matched s [] h x m = absurd m
matched s (r ∷ rs) h x (inl m) = rw m.1 (h.0 (two_at s 2) m.0.low m.0.high)
matched s (r ∷ rs) h x (inr m) = matched s rs h.1 x m

pub setup_ranged : (s : List ℕ) → IfSome (read_setup s) InRange
setup_ranged s = by (read_setup s) (setup_law s)
  where
    by : (x : Option Setup) → RowOf s x → IfSome x InRange
    by (Some x) m = matched s rows ranged x m
    by None k = tt

-- a value that fits a range of bytes is its low byte
low_byte : (s : List ℕ) (low high index size : ℕ) → high ≤ 255 → matches s low high index size ≡ true → byte s 2 ≡ wValue s
unfolding fitting
low_byte s low high index size b e =
    let h : wValue s ≤ high = leb-true (wValue s) high (all_of (low ≤ᵇ wValue s & wValue s ≤ᵇ high & wIndex s =ᵇ index & wLength s =ᵇ size & []) e).1.0 in
    omega arith

pub tag_row : (s : List ℕ) (low high index size : ℕ) (asked : ℕ → Setup) → high ≤ 255 → row (matches s low high index size) (asked (byte s 2)) ≡ row (matches s low high index size) (asked (wValue s))
tag_row s low high index size asked b =
    pick_both (λ (x y : Option Setup). x ≡ y) (matches s low high index size) _ _ _ _ (λ e. ap (λ (v : ℕ). Some (asked v)) (low_byte s low high index size b e)) (λ _. refl)
