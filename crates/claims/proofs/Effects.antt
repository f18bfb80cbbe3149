-- What a call does to the message that a unit holds, told by what is heard of it.
-- Assumes nothing.
use Prim.Native.Nat.{ℕ, ◌+◌, ◌-◌, ◌≤◌, ◌<◌, min}
use mathlib.Core.Path.{◌≡◌, sym, ap, ◌∙◌}
use mathlib.Core.Bool.{Bool}
use mathlib.Core.List.{List, [], ◌++◌}
use mathlib.Core.Logic.{◌⊎◌}
use native.Mathlib.Omega.{arith}
use lib.ListN.{length, take, drop}
use lib.Seq.{paste, take-paste, take_all}
use borrow.Author.Tests.{eq-eqb, ne_eqb}
use Rattle.rules.specs.When.{Not}
use Rattle.rules.proofs.Choice.{at_true, at_false}
use Rattle.port.specs.Out.{absorbed}
use Rattle.port.specs.Device.{Device, held_in}
use Rattle.port.specs.declared.types.BulkOut.{BulkOut}
use Rattle.port.specs.When.{padded}
use Rattle.claims.specs.Command.{header, IsRequest, IsTrigger}
use Rattle.claims.specs.Wire.{Heard, nothing, accepted, broken_off, wiped_out, handed_over}
use Rattle.claims.proofs.Between.{Face, face}

-- ** what is seen of a unit: the data that it holds, what its open transfer lacks and whether that is marked, whether the message is ready

pub record View : Type 0 where
  pub held : List ℕ
  pub left : ℕ
  pub end : ℕ
  pub ready : ℕ
  pub halted : ℕ
  pub configured : Bool
  pub size : ℕ

abbrev pub view_of : Face → View
view_of f = record {
  held = held_in f.out f.message;
  left = f.out.transfer.left;
  end = f.out.transfer.end;
  ready = f.out.message.ready;
  halted = f.out.halted;
  configured = f.configured;
  size = f.size;
}

abbrev pub view : Device → View
view u = view_of (face u)

-- the message and the transfer are these, and all else stays
abbrev pub holds : View → List ℕ → ℕ → ℕ → ℕ → View
holds w held left end ready = record { held = held; left = left; end = end; ready = ready; halted = w.halted; configured = w.configured; size = w.size }

-- ** what an accepted packet does

pub record Opening (w : View) (s : List ℕ) : Type 0 where
  pub tag : ℕ
  pub size : ℕ
  pub end : ℕ
  pub tag_some : 1 ≤ tag
  pub tag_fits : tag ≤ 255
  pub size_some : 1 ≤ size
  pub flag : end ≤ 1
  pub room : length w.held + size ≤ 1024
  pub bytes : s ≡ header tag size end ++ drop 12 s

pub data Taken (w : View) (s : List ℕ) (x : View) : Type 0 where
  -- between transfers: an empty packet, or a REQUEST or TRIGGER where nothing is held
  empty : s ≡ [] → w.left ≡ 0 → x ≡ w → Taken w s x
  other : IsRequest s ⊎ IsTrigger s → w.left ≡ 0 → w.held ≡ [] → x ≡ w → Taken w s x
  -- a header, with all the data of its transfer or with as much as there is room for
  all_at_once : (o : Opening w s) → w.left ≡ 0 → length (drop 12 s) ≡ padded o.size → length s ≤ w.size → x ≡ holds w (w.held ++ take o.size (drop 12 s)) 0 0 o.end → Taken w s x
  begins : (o : Opening w s) → w.left ≡ 0 → length s ≡ w.size → length (drop 12 s) < o.size → x ≡ holds w (w.held ++ drop 12 s) (o.size - length (drop 12 s)) o.end 0 → Taken w s x
  -- more of an open transfer: the rest, or as much as there is room for
  ends : Not (w.left ≡ 0) → length s ≡ padded w.left → length s ≤ w.size → x ≡ holds w (w.held ++ take w.left s) 0 0 w.end → Taken w s x
  goes_on : Not (w.left ≡ 0) → length s ≡ w.size → length s < w.left → x ≡ holds w (w.held ++ s) (w.left - length s) w.end 0 → Taken w s x

-- ** what anything does

pub record Broken (w x : View) : Type 0 where
  pub size : x.size ≡ w.size
  pub left : x.left ≡ 0
  pub end : x.end ≡ 0
  pub ready : x.ready ≡ w.ready
  pub keeps : w.ready ≡ 1 → x.held ≡ w.held
  pub drops : w.ready ≡ 0 → x.held ≡ []

pub record Wiped (w x : View) : Type 0 where
  pub size : x.size ≡ w.size
  pub left : x.left ≡ 0
  pub end : x.end ≡ 0
  pub ready : x.ready ≡ 0
  pub held : x.held ≡ []

pub record Handed (w : View) (m : List ℕ) (x : View) : Type 0 where
  pub ready : w.ready ≡ 1
  pub message : m ≡ w.held
  pub after : x ≡ holds w [] w.left w.end 0

abbrev pub Effect : View → Heard → View → Type 0
Effect w nothing x = x ≡ w
Effect w (accepted s) x = (w.ready ≡ 0) × Taken w s x
Effect w broken_off x = Broken w x
Effect w wiped_out x = Wiped w x
Effect w (handed_over m) x = Handed w m x

-- ** data that comes, of the bytes that are left of a transfer: what `t` has of them goes behind those that are held

module _ (o : BulkOut) (m t : List ℕ) (count size : ℕ) (configured : Bool) (stored : length m ≡ 1024) (room : o.message.held + o.transfer.left ≤ 1024)
    (is : count ≡ min o.transfer.left (length t)) where
  abbrev left : ℕ
  left = o.transfer.left

  abbrev face_of : BulkOut → List ℕ → Face
  face_of q store = record { out = q; message = store; size = size; configured = configured }

  abbrev before : View
  before = view_of (face_of o m)

  abbrev store : List ℕ
  store = paste m o.message.held t count

  abbrev pub after : View
  after = view_of (face_of (absorbed o count) store)

  held_now : take (o.message.held + count) store ≡ before.held ++ take count t
  held_now = take-paste m o.message.held t count (omega arith) (omega arith)

  pub landed_whole : length t ≡ padded left → after ≡ holds before (before.held ++ take left t) 0 0 o.transfer.end
  unfolding absorbed
  landed_whole e =
      let all : count ≡ left = omega arith in
      ap (λ (q : BulkOut). view_of (face_of q store)) (at_true _ _ _ (eq-eqb left count (sym all)))
      ∙ (λ i. holds before ((held_now ∙ ap (λ (n : ℕ). before.held ++ take n t) all) i) 0 0 o.transfer.end)

  pub landed_part : length t < left → after ≡ holds before (before.held ++ t) (left - length t) o.transfer.end 0
  unfolding absorbed
  landed_part e =
      let all : count ≡ length t = omega arith in
      ap (λ (q : BulkOut). view_of (face_of q store)) (at_false _ _ _ (ne_eqb left count (λ z. omega arith)))
      ∙ (λ i. holds before ((held_now ∙ ap (λ (d : List ℕ). before.held ++ d) (take_all count t (omega arith))) i) (left - all i) o.transfer.end 0)
