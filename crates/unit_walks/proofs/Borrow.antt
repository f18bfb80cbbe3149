-- The borrow of a unit is borrow-opens before the call, and closed after it at a unit with the state that the callee answered.
-- Assumes nothing.
use Prim.Native.Nat.{ℕ}
use mathlib.Core.Path.{◌≡◌, refl, ap}
use mathlib.Core.List.{List, [], ◌∷◌, ◌++◌}
use seplogic.Ra.Ura.{Ura}
use base.Fraction.{full_share}
use mir.Syntax.{Callee, Ty, named}
use mir.Val.{Val, Vals, vptr, vcons, vstruct}
use base.Logic.{SProp, ent, sep, via, mono_l}
use base.Fml.{Fml, GName, Lft, Share, fat, flft, fobs, fauth, fbor, fobor}
use prog.Memory.{fields_of}
use prog.Wp.{Calls}
use types.Logic.{Logic}
use sound.WpLaws.{FmC}
use types.Kit.{Item, ‵, raw, some, mean, ⋆, pop, push, ◌⊛◌, ◌$◌, ◌∵◌, !, qed, by, move, drop, use1, use2}
use types.Kit.{split, pick, rewrite, fsplit3, suffices, updating, now as at_once, assume, check, frame, show}
use types.SemTy.{Body}
use denote.RattleType.{RattleType}
use denote.Builtin.{u8}
use denote.Array.{Array}
use denote.Laws.{Is, shows}
use denote.Memory.{mem, cell_at, part_at}
use denote.Ref.{MutRef}
use denote.Steps.{only, opens, closes, owned, peeks, facts}
use denote.Struct.Steps.{spelt}
use denote.Struct.Laws as LL
use denote.Triple.Statement.{Contract, Triple}
use borrow.Table.OneValue.{part_in_at, part_out_at}
use Rattle.port.specs.declared.types.State.{State}
use Rattle.port.specs.Device.{with_state}
use Rattle.unit.specs.declared.types.Unit.{Unit as U}
use Rattle.unit.specs.Promise.{device_of, unit_of}
use Rattle.unit.specs.contracts.types.Unit as T
use Rattle.unit.proofs.types.Unit.TheLaws as T'
use Rattle.port.specs.contracts.types.State as S
use Rattle.port.proofs.types.State.TheLaws as S'
use Rattle.unit_walks.proofs.Walks.{Fits, Back, Answering, Run, Asked}

abbrev pub vals : U → List Val
vals = LL.vals T.the_type T'.the_laws

abbrev pub svals : State → List Val
svals = LL.vals S.the_type S'.the_laws

-- a store's type
abbrev pub Arr : RattleType
Arr = Array u8 1024

-- a unit but for its two stores, what that owns, and a unit with another state
abbrev pub state_of : U → State
state_of u = (device_of u).state

abbrev pub St : U → Fml
St u = (S.the_row).own_val (state_of u) (svals (state_of u))

abbrev pub unit_with : U → State → U
unit_with u st = unit_of (with_state (device_of u) st)

module _ {M : Type 1} (𝓤 : Ura M) (κ : Lft) (q : Share) (γ : GName) (b o : ℕ) where
  -- the borrow at h, open; with a unit in memory, and more; and closed
  abbrev pub Open : U → List (Item 𝓤)
  Open h = ‵ (fobor κ q (Body (mem T.the_row) b o γ)) ∷ ‵ (fobs γ ((T.the_row).coded.code h)) ∷ ‵ (fauth γ ((T.the_row).coded.code h)) ∷ []

  abbrev pub Opened : U → U → Item 𝓤 → Item 𝓤 → List (Item 𝓤)
  Opened h h' i j = ‵ (part_at T.the_row full_share h' b o) ∷ (Open h ++ i ∷ j ∷ [])

  abbrev pub Closed : U → Item 𝓤 → Item 𝓤 → List (Item 𝓤)
  Closed h i j = ‵ (fobs γ ((T.the_row).coded.code h)) ∷ ‵ (fbor κ (Body (mem T.the_row) b o γ)) ∷ ‵ (flft κ q) ∷ i ∷ j ∷ []

  module _ (𝓛 : Logic 𝓤) (τ : Ty) (End : Vals → SProp 𝓤) (h : U) (i j : Item 𝓤) where
    open 𝓛 use {H}

    pub borrow_opens : (run : (Val → SProp 𝓤) → SProp 𝓤) → ent 𝓤 (⋆ 𝓛 (‵ (St h) ∷ Opened h h i j)) (H.⇛ (Run 𝓛 T'.mir τ b o End run))
        → ent 𝓤 (⋆ 𝓛 ((‵ (flft κ q) ⊛ i) ∷ ‵ ((MutRef (named 0) κ T.the_row).own_val (record { ref_ptr = (b, o); ghost_name = γ; now = h }) (vptr b o ∷ [])) ∷ j ∷ []))
        (mean 𝓛 (Asked 𝓛 T'.mir τ b o End (fields_of (only (vals h))) run))
    borrow_opens run asks =
        qed 𝓛 ((‵ (flft κ q) ⊛ i) ∷ ‵ ((MutRef (named 0) κ T.the_row).own_val (record { ref_ptr = (b, o); ghost_name = γ; now = h }) (vptr b o ∷ [])) ∷ j ∷ []) ∵ updating ! $ split ! $ move !
        (2 ∷ []) $ fsplit3 ! $ drop ! $ move ! (0 ∷ 1 ∷ 2 ∷ []) $
        opens ! tt T.the_row {h = h} b o (λ vs. spelt ! T.the_row (Is T.the_row) (shows 𝓛 T.the_row) vals (LL.tells T.the_type T'.the_laws) full_share h vs b o $
        use1 𝓛 (‵ (fat full_share T'.mir b o (only (vals h)))) (𝓛.laws.raw_at full_share T'.mir b o (only (vals h))) $ at_once ! $ frame ! $ assume ! (‵ (fat full_share T'.mir b o (only (vals h)))) $
        move ! (1 ∷ []) $ peeks ! T.the_row (Is T.the_row) (shows 𝓛 T.the_row) h (vals h) (λ is. move ! (1 ∷ 0 ∷ []) $
        use2 𝓛 (‵ (part_at T.the_row full_share h b o)) (part_in_at 𝓛 T.the_row refl full_share h b o T'.mir refl (only (vals h))) $
        owned ! S.the_row (Is S.the_row) (LL.makes S.the_type S'.the_plain 𝓛) (state_of h) (svals (state_of h))
        (LL.owes S.the_type S'.the_laws (state_of h) (LL.owed T.the_type T'.the_laws h _ is).1.1) $ by ! asks))

    pub closed : (h' : U) (st : State) (ns : Vals) (w : Val) → Is S.the_row st (svals st) → Fits τ w → w ≡ vstruct (vcons (only (svals st)) ns) → ent 𝓤 (H.⇛ (End ns)) (End ns)
        → ent 𝓤 (⋆ 𝓛 (Closed (unit_with h' st) i j)) (End ns) → ent 𝓤 (⋆ 𝓛 (Opened h h' i j)) (mean 𝓛 (Answering 𝓛 T'.mir τ b o End w))
    closed h' st ns w is-st fits e soaks ends =
        qed 𝓛 (Opened h h' i j) ∵ updating ! $
        use1 𝓛 (some (λ (u : Val). ‵ (fat full_share T'.mir b o u) ⊛ ‵ ((T.the_row).own_val h' (u ∷ [])))) (part_out_at 𝓛 T.the_row refl full_share h' b o T'.mir refl) $ pick !
        (λ u. split ! $ move ! (1 ∷ []) $
        facts ! T.the_row (Is T.the_row) (shows 𝓛 T.the_row) h' (u ∷ [])
        (λ is. rewrite ! 0 (λ (u : Val). ‵ (fat full_share T'.mir b o u)) (ap only (LL.tells T.the_type T'.the_laws h' _ is)) refl $ at_once ! $
        show ! (λ x. mean 𝓛 (Back 𝓛 T'.mir τ b o End w x)) (fields_of (only (vals h')), fields_of (only (svals st)), ns) $ check ! (fits, e) $ frame ! $ assume !
        (‵ (fat full_share T'.mir b o (only (vals (unit_with h' st))))) $ suffices ! (H.⇛ (End ns)) soaks $ updating ! $
        use1 𝓛 (‵ (cell_at full_share (T.the_row).mir (vals (unit_with h' st)) b o)) (𝓛.laws.at_raw full_share T'.mir b o (only (vals (unit_with h' st)))) $ let fields =
        LL.owed T.the_type T'.the_laws h' _ is in
        owned ! T.the_row (Is T.the_row) (LL.makes T.the_type T'.the_plain 𝓛) (unit_with h' st) (vals (unit_with h' st))
        (LL.owes T.the_type T'.the_laws (unit_with h' st) (fields.0, (fields.1.0, LL.owed S.the_type S'.the_laws st _ is-st))) $
        move ! (1 ∷ 0 ∷ []) $ closes ! tt T.the_row (unit_with h' st) (vals (unit_with h' st)) b o $ at_once ! $ by ! ends))

-- a call of what meets a contract, with what the caller keeps
module _ {M : Type 1} {𝓤 : Ura M} (𝓛 : Logic 𝓤) (C : Calls 𝓤 𝓛.H) (fm : FmC 𝓤 𝓛.H 𝓛.laws C) where
  pub called : (f : Callee) (c : Contract 𝓤) → Triple 𝓤 (C f) c → (x : c.Ghost) (Γ : List (Item 𝓤)) (Q : Val → SProp 𝓤) → ((w : Val) → ent 𝓤 (⋆ 𝓛 (raw (c.post x w) ∷ Γ)) (Q w))
      → ent 𝓤 (⋆ 𝓛 (raw (c.pre x) ∷ Γ)) (C f (c.args x) Q)
  called f c met x Γ Q k =
      via 𝓤 (sep 𝓤 (c.pre x) (⋆ 𝓛 Γ)) (pop 𝓛 (raw (c.pre x)) Γ) (via 𝓤 (sep 𝓤 (C f (c.args x) (c.post x)) (⋆ 𝓛 Γ)) (mono_l 𝓤 (⋆ 𝓛 Γ) (met x))
      (fm f (c.args x) (c.post x) Q (⋆ 𝓛 Γ) (λ w. via 𝓤 (⋆ 𝓛 (raw (c.post x w) ∷ Γ)) (push 𝓛 (raw (c.post x w)) Γ) (k w))))
