-- What a watcher hears in the eight bytes of a setup packet is what the row says that they match.
-- Assumes nothing.
use Prim.Native.Nat.{ℕ}
use mathlib.Core.Path.{◌≡◌, refl, ◌∙◌}
use mathlib.Core.Bool.{Bool, true, false}
use mathlib.Core.List.{List, []}
use native.Mathlib.Omega.{arith}
use borrow.Author.Tests.{eqb-true}
use Rattle.std.specs.Prelude.{Option, Some, None}
use Rattle.rules.specs.Choice.{◌=ᵇ◌, ◌and◌, pick, ◌⇒◌∣◌, first}
use Rattle.rules.proofs.Choice.{pick_all, at_true, at_false}
use Rattle.wire.specs.Bytes.{byte}
use Rattle.wire.specs.Setup.{wIndex, BULK_OUT, BULK_IN, INTERRUPT_IN, row, by_endpoint, to_endpoint, to_interface, to_feature, to_status, to_device, read_setup}
use Rattle.wire.specs.declared.types.Endpoint.{Endpoint}
use Rattle.wire.specs.declared.types.Endpoint.TheVariants.{Out, In, Interrupt}
use Rattle.wire.specs.declared.types.Row.{Row}
use Rattle.wire.specs.declared.types.Row.TheVariants.{InitiateAbortBulkOut, CheckAbortBulkOutStatus, InitiateAbortBulkIn, CheckAbortBulkInStatus}
use Rattle.wire.specs.declared.types.Row.TheVariants.{InitiateClear, CheckClearStatus, GetCapabilities, IndicatorPulse, ReadStatusByte}
use Rattle.wire.specs.declared.types.Row.TheVariants.{RenControl, GoToLocal, LocalLockout, ClearFeature, SetFeature, GetStatus}
use Rattle.wire.specs.declared.types.Setup.{Setup}
use Rattle.wire.specs.declared.types.Setup.TheVariants.{Configure, Asks}
use Rattle.port.specs.Answer.{Answer}
use Rattle.claims.specs.Wire.{Heard, nothing, broken_off, wiped_out, heard_setup}

-- a request that is answered SUCCESS
abbrev pub succeeding : Answer → Heard → Heard
succeeding a h = pick (byte a.bytes 0 =ᵇ 1) h nothing

-- what is heard, by bytes 0, 1 and 4
abbrev by_bytes : ℕ → ℕ → ℕ → Answer → Heard
by_bytes type asked index a =
    first
    (type =ᵇ 0x00 ⇒ wiped_out ∣
    type =ᵇ 0x02 and index =ᵇ 0x01 ⇒ broken_off ∣
    type =ᵇ 0xA2 and asked =ᵇ 1 ⇒ succeeding a broken_off ∣
    type =ᵇ 0xA1 and asked =ᵇ 5 ⇒ succeeding a wiped_out ∣ [])
    nothing

abbrev pub in_bytes : List ℕ → Answer → Heard
in_bytes s a = by_bytes (byte s 0) (byte s 1) (byte s 4) a

-- what is heard, by the row
abbrev pub in_row : Row → Answer → Heard
in_row (InitiateAbortBulkOut tag) a = succeeding a broken_off
in_row CheckAbortBulkOutStatus a = nothing
in_row (InitiateAbortBulkIn tag) a = nothing
in_row CheckAbortBulkInStatus a = nothing
in_row InitiateClear a = succeeding a wiped_out
in_row CheckClearStatus a = nothing
in_row GetCapabilities a = nothing
in_row IndicatorPulse a = nothing
in_row (ReadStatusByte tag) a = nothing
in_row (RenControl ren) a = nothing
in_row GoToLocal a = nothing
in_row LocalLockout a = nothing
in_row (ClearFeature Out) a = broken_off
in_row (ClearFeature In) a = nothing
in_row (ClearFeature Interrupt) a = nothing
in_row (SetFeature Out) a = broken_off
in_row (SetFeature In) a = nothing
in_row (SetFeature Interrupt) a = nothing
in_row (GetStatus endpoint) a = nothing

-- a packet that matches no row is refused
abbrev pub Told : List ℕ → Option Setup → Type 0
Told s (Some (Configure value)) = (a : Answer) → in_bytes s a ≡ wiped_out
Told s (Some (Asks asked)) = (a : Answer) → in_bytes s a ≡ in_row asked a
Told s None = Unit {0}

by : (type asked index t q i : ℕ) (a : Answer) → type ≡ t → asked ≡ q → index ≡ i → by_bytes type asked index a ≡ by_bytes t q i a
by type asked index t q i a e f g = rw (e, f, g)

-- a row, where its other columns fit too
asks : (s : List ℕ) (fits : Bool) (asked : Row) → ((a : Answer) → in_bytes s a ≡ in_row asked a) → Told s (row fits (Asks asked))
asks s fits asked k = pick_all (Told s) fits _ _ (λ _. k) (λ _. tt)

by_endpoint_lem : (s : List ℕ) (size : ℕ) (asked : Endpoint → Row)
    → (byte s 4 ≡ 0x01 → (a : Answer) → in_bytes s a ≡ in_row (asked Out) a)
    → (byte s 4 ≡ 0x82 → (a : Answer) → in_bytes s a ≡ in_row (asked In) a)
    → (byte s 4 ≡ 0x83 → (a : Answer) → in_bytes s a ≡ in_row (asked Interrupt) a) → Told s (by_endpoint s size asked)
by_endpoint_lem s size asked k l m =
    pick_all (Told s) _ _ _ (λ e. let i : wIndex s ≡ BULK_OUT = eqb-true _ _ e in asks s _ _ (k (omega arith)))
    (λ _. pick_all (Told s) _ _ _ (λ e. let i : wIndex s ≡ BULK_IN = eqb-true _ _ e in asks s _ _ (l (omega arith)))
    (λ _. pick_all (Told s) _ _ _ (λ e. let i : wIndex s ≡ INTERRUPT_IN = eqb-true _ _ e in asks s _ _ (m (omega arith))) (λ _. tt)))

-- bytes 0 and 1 of each row
aborts : (i : ℕ) (a : Answer) → (by_bytes 0xA2 1 i a ≡ succeeding a broken_off) × (by_bytes 0xA2 2 i a ≡ nothing) × (by_bytes 0xA2 3 i a ≡ nothing)
    × (by_bytes 0xA2 4 i a ≡ nothing)
unfolding pick ◌and◌
aborts i a = (refl, refl, refl, refl)

clears : (i : ℕ) (a : Answer) → (by_bytes 0xA1 5 i a ≡ succeeding a wiped_out) × (by_bytes 0xA1 6 i a ≡ nothing)
unfolding pick ◌and◌
clears i a = (refl, refl)

others : (i : ℕ) (a : Answer) → (by_bytes 0xA1 7 i a ≡ nothing) × (by_bytes 0xA1 64 i a ≡ nothing) × (by_bytes 0xA1 128 i a ≡ nothing)
    × (by_bytes 0xA1 160 i a ≡ nothing) × (by_bytes 0xA1 161 i a ≡ nothing) × (by_bytes 0xA1 162 i a ≡ nothing)
unfolding pick ◌and◌
others i a = (refl, refl, refl, refl, refl, refl)

features : (q : ℕ) (a : Answer) → (by_bytes 0x02 q 0x01 a ≡ broken_off) × (by_bytes 0x02 q 0x82 a ≡ nothing) × (by_bytes 0x02 q 0x83 a ≡ nothing)
unfolding pick ◌and◌
features q a = (refl, refl, refl)

plain : (i : ℕ) (a : Answer) → (by_bytes 0x82 0 i a ≡ nothing) × (by_bytes 0x00 9 i a ≡ wiped_out)
unfolding pick ◌and◌
plain i a = (refl, refl)

module _ (s : List ℕ) where
  -- bytes 0 and 1 are these
  these : (t q : ℕ) (a : Answer) → byte s 0 ≡ t → (byte s 1 =ᵇ q) ≡ true → in_bytes s a ≡ by_bytes t q (byte s 4) a
  these t q a e f = by _ _ _ t q (byte s 4) a e (eqb-true (byte s 1) q f) refl

  endpoint_row : byte s 0 ≡ 0xA2 → Told s (to_endpoint s)
  unfolding to_endpoint
  endpoint_row e =
      pick_all (Told s) _ _ _ (λ f. asks s _ _ (λ a. these 0xA2 1 a e f ∙ (aborts (byte s 4) a).0))
      (λ _. pick_all (Told s) _ _ _ (λ f. asks s _ _ (λ a. these 0xA2 2 a e f ∙ (aborts (byte s 4) a).1))
      (λ _. pick_all (Told s) _ _ _ (λ f. asks s _ _ (λ a. these 0xA2 3 a e f ∙ (aborts (byte s 4) a).2))
      (λ _. pick_all (Told s) _ _ _ (λ f. asks s _ _ (λ a. these 0xA2 4 a e f ∙ (aborts (byte s 4) a).3)) (λ _. tt))))

  interface_row : byte s 0 ≡ 0xA1 → Told s (to_interface s)
  unfolding to_interface
  interface_row e =
      pick_all (Told s) _ _ _ (λ f. asks s _ _ (λ a. these 0xA1 5 a e f ∙ (clears (byte s 4) a).0))
      (λ _. pick_all (Told s) _ _ _ (λ f. asks s _ _ (λ a. these 0xA1 6 a e f ∙ (clears (byte s 4) a).1))
      (λ _. pick_all (Told s) _ _ _ (λ f. asks s _ _ (λ a. these 0xA1 7 a e f ∙ (others (byte s 4) a).0))
      (λ _. pick_all (Told s) _ _ _ (λ f. asks s _ _ (λ a. these 0xA1 64 a e f ∙ (others (byte s 4) a).1))
      (λ _. pick_all (Told s) _ _ _ (λ f. asks s _ _ (λ a. these 0xA1 128 a e f ∙ (others (byte s 4) a).2))
      (λ _. pick_all (Told s) _ _ _ (λ f. asks s _ _ (λ a. these 0xA1 160 a e f ∙ (others (byte s 4) a).3))
      (λ _. pick_all (Told s) _ _ _ (λ f. asks s _ _ (λ a. these 0xA1 161 a e f ∙ (others (byte s 4) a).4))
      (λ _. pick_all (Told s) _ _ _ (λ f. asks s _ _ (λ a. these 0xA1 162 a e f ∙ (others (byte s 4) a).5)) (λ _. tt))))))))

  feature_row : byte s 0 ≡ 0x02 → Told s (to_feature s)
  unfolding to_feature
  feature_row e =
      pick_all (Told s) _ _ _ (λ _. by_endpoint_lem s 0 ClearFeature out inward interrupt) (λ _. pick_all (Told s) _ _ _ (λ _. by_endpoint_lem s 0 SetFeature out inward interrupt) (λ _. tt))
    where
      at_index : (i : ℕ) (a : Answer) → byte s 4 ≡ i → in_bytes s a ≡ by_bytes 0x02 (byte s 1) i a
      at_index i a g = by _ _ _ 0x02 (byte s 1) i a e refl g

      out : byte s 4 ≡ 0x01 → (a : Answer) → in_bytes s a ≡ broken_off
      out i a = at_index 0x01 a i ∙ (features (byte s 1) a).0

      inward : byte s 4 ≡ 0x82 → (a : Answer) → in_bytes s a ≡ nothing
      inward i a = at_index 0x82 a i ∙ (features (byte s 1) a).1

      interrupt : byte s 4 ≡ 0x83 → (a : Answer) → in_bytes s a ≡ nothing
      interrupt i a = at_index 0x83 a i ∙ (features (byte s 1) a).2

  status_row : byte s 0 ≡ 0x82 → Told s (to_status s)
  unfolding to_status
  status_row e =
      pick_all (Told s) _ _ _
      (λ f. let none : (a : Answer) → in_bytes s a ≡ nothing = λ a. these 0x82 0 a e f ∙ (plain (byte s 4) a).0 in by_endpoint_lem s 2 GetStatus (λ _. none) (λ _. none) (λ _. none)) (λ _. tt)

  device_row : byte s 0 ≡ 0x00 → Told s (to_device s)
  unfolding to_device
  device_row e = pick_all (Told s) _ _ _ (λ f. pick_all (Told s) _ _ _ (λ _ a. these 0x00 9 a e f ∙ (plain (byte s 4) a).1) (λ _. tt)) (λ _. tt)

  pub told : Told s (read_setup s)
  unfolding read_setup
  told =
      pick_all (Told s) _ _ _ (λ e. endpoint_row (eqb-true _ _ e))
      (λ _. pick_all (Told s) _ _ _ (λ e. interface_row (eqb-true _ _ e))
      (λ _. pick_all (Told s) _ _ _ (λ e. feature_row (eqb-true _ _ e))
      (λ _. pick_all (Told s) _ _ _ (λ e. status_row (eqb-true _ _ e))
      (λ _. pick_all (Told s) _ _ _ (λ e. device_row (eqb-true _ _ e)) (λ _. tt)))))

  -- an answer of 0 is heard by the bytes, any other not at all
  pub heard_done : (a : Answer) → a.verdict.number ≡ 0 → heard_setup s a ≡ in_bytes s a
  unfolding heard_setup
  heard_done a e = at_true _ _ _ (rw e)

  pub heard_refused : (a : Answer) → (a.verdict.number =ᵇ 0) ≡ false → heard_setup s a ≡ nothing
  unfolding heard_setup
  heard_refused a e = at_false _ _ _ e
