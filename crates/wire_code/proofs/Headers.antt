-- A header that is read from its twelve bytes is the one that the packet begins with: a law for each kind.
-- Assumes nothing.
use Prim.Native.Nat.{ℕ}
use mathlib.Core.Path.{◌≡◌, refl, sym, ap, ◌∙◌}
use mathlib.Core.Bool.{true, false}
use mathlib.Core.List.{List}
use lib.Seq.{get_or-take}
use borrow.Author.Tests.{ltb-true}
use Rattle.std.specs.Array.{IsFirstChunk}
use Rattle.rules.specs.Choice.{◌<ᵇ◌}
use Rattle.rules.proofs.Choice.{picks}
use Rattle.wire.specs.Header.{Read, inverse, not_in_fours, read_message, read_request, read_trigger, read_header}
use Rattle.wire.specs.When.{at}
use Rattle.wire.proofs.Twelve.{message_front, request_front, trigger_front}

module _ (s h : List ℕ) (front : IsFirstChunk s h 12) where
  same : (i : ℕ) → (i <ᵇ 12) ≡ true → at s i ≡ at h i
  same i e = sym (ap (λ (l : List ℕ). at l i) front.same ∙ get_or-take 12 s i 0 (ltb-true i 12 e))

  module _ (fours : not_in_fours s ≡ false) (tag : at h 1 ≡ 0 → ⊥) (inverted : at h 2 ≡ inverse (at h 1)) where
    pub reads_message : (x : Read) → at h 0 ≡ 1 → x ≡ read_message h → x ≡ read_header s
    unfolding read_header
    reads_message x id is =
        let long = front.enough in
        let zeroth = same 0 refl ∙ id in
        let first : at s 1 ≡ 0 → ⊥ = λ z. tag (sym (same 1 refl) ∙ z) in
        let second : at s 2 ≡ inverse (at s 1) = same 2 refl ∙ inverted ∙ ap inverse (sym (same 1 refl)) in
        let read = is ∙ ap read_message front.same ∙ message_front s front.enough in
        search picks depth 14

    pub reads_request : (x : Read) → at h 0 ≡ 2 → x ≡ read_request h → x ≡ read_header s
    unfolding read_header
    reads_request x id is =
        let long = front.enough in
        let zeroth = same 0 refl ∙ id in
        let first : at s 1 ≡ 0 → ⊥ = λ z. tag (sym (same 1 refl) ∙ z) in
        let second : at s 2 ≡ inverse (at s 1) = same 2 refl ∙ inverted ∙ ap inverse (sym (same 1 refl)) in
        let read = is ∙ ap read_request front.same ∙ request_front s front.enough in
        search picks depth 14

    pub reads_trigger : (x : Read) → at h 0 ≡ 128 → x ≡ read_trigger h → x ≡ read_header s
    unfolding read_header
    reads_trigger x id is =
        let long = front.enough in
        let zeroth = same 0 refl ∙ id in
        let first : at s 1 ≡ 0 → ⊥ = λ z. tag (sym (same 1 refl) ∙ z) in
        let second : at s 2 ≡ inverse (at s 1) = same 2 refl ∙ inverted ∙ ap inverse (sym (same 1 refl)) in
        let read = is ∙ ap read_trigger front.same ∙ trigger_front s front.enough in
        search picks depth 14
