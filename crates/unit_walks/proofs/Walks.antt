-- The walks of the two functions, over any types and any callee: what the machine does, and what is asked of the logic for it.
-- Assumes nothing.
use mathlib.Core.Path.{◌≡◌, refl, sym, subst}
use mathlib.Core.List.{List, [], ◌∷◌}
use mathlib.Core.Option.{some as some'}
use Prim.Native.Nat.{ℕ, ◌+◌}
use seplogic.Ra.Ura.{Ura}
use base.Fraction.{full_share}
use lib.Dec.{T as TT}
use mir.Syntax.{Callee, Sym, Lifetime, Mutability, Home, Ty, Tys, tnil, tcons, ty_struct, ty_ref, ty_int, w64, Local}
use mir.Syntax.{local, Body, Fn, place, deref, field, copy, rv_opd, aggregate, addr_of, seq, assign, call, return}
use mir.Val.{Val, Vals, vptr, vnil, vcons, vstruct, has_ty, has_tys, WT, WTs}
use mir.Fields.{get_v, set_v}
use mir.Facts.{yes_and}
use base.Logic.{SProp, ent, wand, id⊢}
use base.Fml.{Share, Fml, fat, fdies}
use prog.Memory.{field_of, field_at}
use prog.Wp.{Env, Calls, Loops, WpFn}
use types.Logic.{Logic, sem}
use sound.WpLaws.{FmC}
use store.Struct.{get_has, get_wt}
use types.Kit.{Item, Goal, frees, allocs, params', runs, at_ret, Step, step, ‵, raw, given, some, later, ◌⊛◌}
use types.Kit.{mean, ⋆, ◌$◌, ◌∵◌, !, qed, regoal, move, use1, use2, split, pick, learn, rewrite, apply, await, done}
use types.Run.{enter, look, init, forget, stop, hop, fld, from, load, addr, of_opd, and_then, no_more, assigns}
use types.Run.{calls, land, returns, alloc1, alloc0, params1, pass1, pass0, free1, free0, well_typed}
use types.Part.{Part, agg, whole, sub, look_in, store_in}
use denote.Slice.{slice_val}

-- ** machine values of a type, and a struct's fields

abbrev pub Fits : Ty → Val → Type 0
Fits τ v = TT (has_ty τ v) × WT v

abbrev AllFit : Tys → Vals → Type 0
AllFit us vs = TT (has_tys us vs) × WTs vs

-- where a field stands
abbrev pub At : Ty → ℕ → Ty → ℕ → Type 0
At τ k σ d = field_of τ k ≡ some' (σ, d)

one_fits : (us : Tys) (vs : Vals) (k : ℕ) {σ : Ty} {d : ℕ} → field_at 0 us k ≡ some' (σ, d) → AllFit us vs → Fits σ (get_v vs k)
one_fits us vs k {σ} {d} e p = (get_has 0 us k σ d e vs p.0, get_wt vs k p.1)

fits_in : {υ σ : Ty} {ν : Sym} {us : Tys} {d : ℕ} → υ ≡ ty_struct ν us → (vs : Vals) (k : ℕ) → At υ k σ d → Fits υ (vstruct vs) → Fits σ (get_v vs k)
fits_in {σ = σ} {us = us} {d = d} e vs k at p = one_fits us vs k (subst (λ (τ : Ty). At τ k σ d) e at) (subst (λ (τ : Ty). Fits τ (vstruct vs)) e p)

also : (σ : Ty) (v : Val) (us : Tys) (vs : Vals) → Fits σ v → AllFit us vs → AllFit (tcons σ us) (vcons v vs)
also σ v us vs p q = (yes_and (has_ty σ v) (has_tys us vs) p.0 q.0, (p.1, q.1))

abbrev slice : Sym → Lifetime → Mutability → Ty → Ty
slice ζ ℓ μ β = ty_struct ζ (tcons (ty_ref ℓ μ β) (tcons (ty_int w64) tnil))

-- ** what both run

-- the last three fields of the unit behind local 1 are copied, and the state is made of them
abbrev takes : Ty → Body → Body
takes υ rest =
    seq (assign (place 5 []) (rv_opd (copy (place 1 (deref υ ∷ field 2 ∷ []))))) (seq (assign (place 6 []) (rv_opd (copy (place 1 (deref υ ∷ field 3 ∷ [])))))
    (seq (assign (place 7 []) (rv_opd (copy (place 1 (deref υ ∷ field 4 ∷ []))))) (seq (assign (place 3 []) (aggregate (copy (place 5 []) ∷ copy (place 6 []) ∷ copy (place 7 []) ∷ []))) rest)))

abbrev pub taken : Vals → Vals
taken us = vcons (get_v us 2) (vcons (get_v us 3) (vcons (get_v us 4) vnil))

taken_fits : {υ ς σ₂ σ₃ σ₄ : Ty} {ν ξ : Sym} {us : Tys} {d₂ d₃ d₄ : ℕ} → υ ≡ ty_struct ν us → ς ≡ ty_struct ξ (tcons σ₂ (tcons σ₃ (tcons σ₄ tnil))) → (vs : Vals) → At υ 2 σ₂ d₂ → At υ 3 σ₃ d₃
    → At υ 4 σ₄ d₄ → Fits υ (vstruct vs) → Fits ς (vstruct (taken vs))
taken_fits {σ₂ = σ₂} {σ₃ = σ₃} {σ₄ = σ₄} e s vs u₂ u₃ u₄ p =
    subst (λ (τ : Ty). Fits τ (vstruct (taken vs))) (sym s) (also σ₂ (get_v vs 2) (tcons σ₃ (tcons σ₄ tnil)) (vcons (get_v vs 3) (vcons (get_v vs 4) vnil)) (fits_in e vs 2 u₂ p)
    (also σ₃ (get_v vs 3) (tcons σ₄ tnil) (vcons (get_v vs 4) vnil) (fits_in e vs 3 u₃ p) (also σ₄ (get_v vs 4) tnil vnil (fits_in e vs 4 u₄ p) (tt, tt))))

-- the three parts of the answered state are stored
abbrev stores : Ty → Body → Body
stores υ rest =
    seq (assign (place 1 (deref υ ∷ field 2 ∷ [])) (rv_opd (copy (place 4 (field 0 ∷ field 0 ∷ [])))))
    (seq (assign (place 1 (deref υ ∷ field 3 ∷ [])) (rv_opd (copy (place 4 (field 0 ∷ field 1 ∷ [])))))
    (seq (assign (place 1 (deref υ ∷ field 4 ∷ [])) (rv_opd (copy (place 4 (field 0 ∷ field 2 ∷ []))))) rest))

abbrev stored : Vals → Vals → Vals
stored us ss = set_v (set_v (set_v us 2 (get_v ss 0)) 3 (get_v ss 1)) 4 (get_v ss 2)

-- ** what is asked of the logic: υ is the unit's type, and τ that of what the callee answers

module _ {M : Type 1} {𝓤 : Ura M} (𝓛 : Logic 𝓤) (υ τ : Ty) (b o : ℕ) (End : Vals → SProp 𝓤) where
  open 𝓛 use {H}

  abbrev unit : Vals → Fml
  unit us = fat full_share υ b o (vstruct us)

  -- the callee answers a state and more, and a unit is in memory; once it has that state, the function ends with the rest of the answer
  abbrev pub Back : Val → Vals × Vals × Vals → Item 𝓤
  Back w x = given (Fits τ w × (w ≡ vstruct (vcons (vstruct x.1) x.2))) (‵ (unit x.0) ⊛ raw (wand 𝓤 (sem 𝓛 (unit (stored x.0 x.1))) (End x.2)))

  abbrev pub Answering : Val → Item 𝓤
  Answering w = later (some (Back w))

  abbrev pub Run : ((Val → SProp 𝓤) → SProp 𝓤) → SProp 𝓤
  Run run = run (λ w. mean 𝓛 (Answering w))

  -- a unit is in memory, and with it the callee can be called
  abbrev pub Asked : Vals → ((Val → SProp 𝓤) → SProp 𝓤) → Item 𝓤
  Asked us run = later (‵ (unit us) ⊛ raw (wand 𝓤 (sem 𝓛 (unit us)) (H.⇛ (Run run))))

-- ** a field's cell, and a local that is given up

module _ {M : Type 1} {𝓤 : Ura M} {𝓛 : Logic 𝓤} {K : Type 0} where
  open 𝓛 use {H}

  within : K → {i : Item 𝓤} {q : Share} {υ σ : Ty} {ν : Sym} {us : Tys} {b o d : ℕ} {vs : Vals} {back : Val → Item 𝓤} → υ ≡ ty_struct ν us → (k : ℕ) → At υ k σ d → Part K 𝓛 i q υ b o (vstruct vs) back
      → Part K 𝓛 i q σ b (o + d) (get_v vs k) (λ u. back (vstruct (set_v vs k u)))
  within t {i} {q} {σ = σ} {b = b} {o = o} {d = d} {vs = vs} {back = back} e k at p = sub t k (subst (λ (τ : Ty). At τ k σ d) e at) (subst (λ (τ : Ty). Part K 𝓛 i q τ b o (vstruct vs) back) e p)

  gives_up : K → {Γ : List (Item 𝓤)} {τ : Ty} {b : ℕ} {v : Val} {E : Env 𝓤 H} {g : Goal 𝓤 H} → Step K 𝓛 Γ (frees E g) (‵ (fat full_share τ b 0 v) ∷ ‵ (fdies τ b) ∷ Γ) (frees ((τ, b) ∷ E) g)
  gives_up t = step (λ s. forget t 0 refl $ free1 t $ s)

-- ** nine locals, and the answer is one field of what the callee answers

module _ {M : Type 1} {𝓤 : Ura M} (𝓛 : Logic 𝓤) (C : Calls 𝓤 𝓛.H) (Λ : Loops 𝓤 𝓛.H) (fm : FmC 𝓤 𝓛.H 𝓛.laws C) (υ τ ς σ₂ σ₃ σ₄ ρ₁ : Ty)
    {f : Callee} {α ω τ₂ : Ty} {ℓ₁ ℓ₈ : Lifetime} {μ₁ μ₈ : Mutability} {h₀ h₁ h₂ h₃ h₄ h₅ h₆ h₇ h₈ : Home} {ν π ξ : Sym} {us ps : Tys} {d₀ d₂ d₃ d₄ c c₀ c₁ c₂ e₁ : ℕ} where
  open 𝓛 use {H}

  pub walks_nine : (fn : Fn) → ◌≡◌ {A = List Local × Body} (fn.locals, fn.body) (
    local ρ₁ h₀ ∷ local (ty_ref ℓ₁ μ₁ ω) h₁ ∷ local τ₂ h₂ ∷ local ς h₃ ∷ local τ h₄ ∷ local σ₂ h₅ ∷ local σ₃ h₆ ∷ local σ₄ h₇ ∷ local (ty_ref ℓ₈ μ₈ α) h₈ ∷ [],
    takes υ
        (seq (assign (place 8 []) (addr_of (place 1 (deref υ ∷ field 0 ∷ []))))
        (seq (call f (copy (place 8 []) ∷ copy (place 3 []) ∷ copy (place 2 []) ∷ []) (place 4 [])) (stores υ (seq (assign (place 0 []) (rv_opd (copy (place 4 (field 1 ∷ []))))) return)))),
  )
      → υ ≡ ty_struct ν us → τ ≡ ty_struct π ps → ς ≡ ty_struct ξ (tcons σ₂ (tcons σ₃ (tcons σ₄ tnil)))
      → At υ 0 α d₀ → At υ 2 σ₂ d₂ → At υ 3 σ₃ d₃ → At υ 4 σ₄ d₄ → At τ 0 ς c → At ς 0 σ₂ c₀ → At ς 1 σ₃ c₁ → At ς 2 σ₄ c₂ → At τ 1 ρ₁ e₁
      → (b o : ℕ) (v : Val) → Fits τ₂ v → (vs : Vals) (Kf : Val → SProp 𝓤) (i j : Item 𝓤)
      → ent 𝓤 (⋆ 𝓛 (i ∷ j ∷ [])) (mean 𝓛 (Asked 𝓛 υ τ b o (λ ns. Kf (get_v ns 0)) vs (C f (vptr b (o + d₀) ∷ vstruct (taken vs) ∷ v ∷ []))))
      → ent 𝓤 (⋆ 𝓛 (i ∷ j ∷ [])) (WpFn 𝓤 H C Λ fn (vptr b o ∷ v ∷ []) Kf)
  walks_nine fn is u p s u₀ u₂ u₃ u₄ p₀ s₀ s₁ s₂ p₁ b o v fit vs Kf i j asked =
      qed 𝓛 (i ∷ j ∷ []) ∵ enter ! C Λ fn (vptr b o ∷ v ∷ []) Kf $ regoal ! (λ (g : List Local × Body). allocs g.0 (λ E. params' E (vptr b o ∷ v ∷ []) (runs C Λ E g.1 (at_ret E Kf)))) is refl $
      alloc1 ! (λ l₀. alloc1 !
      (λ l₁. alloc1 !
      (λ l₂. alloc1 !
      (λ l₃. alloc1 !
      (λ l₄. alloc1 ! (λ l₅. alloc1 ! (λ l₆. alloc1 ! (λ l₇. alloc1 ! (λ l₈. alloc0 ! $ params1 ! $ pass1 ! (init ! 14 refl (tt, tt)) $ pass1 ! (init ! 12 refl fit) $ pass0 ! $
      -- [the unit; the call; _8; …; _7; …; …; _0; …]
      move ! (18 ∷ 19 ∷ []) $ use2 𝓛 (Asked 𝓛 υ τ b o End vs (C f (vptr b (o + d₀) ∷ vstruct (taken vs) ∷ v ∷ []))) asked $ await ! tt $ split ! $ well_typed ! (λ g.
      assigns ! (of_opd ! (load ! (from ! (hop ! (look ! 16 refl) (fld ! u₂ (stop !)))) (look_in ! 0 (within ! u 2 u₂ (whole !))))) (from ! (stop !)) (init ! 8 refl (fits_in u vs 2 u₂ g)) $
      assigns ! (of_opd ! (load ! (from ! (hop ! (look ! 16 refl) (fld ! u₃ (stop !)))) (look_in ! 0 (within ! u 3 u₃ (whole !))))) (from ! (stop !)) (init ! 6 refl (fits_in u vs 3 u₃ g)) $
      assigns ! (of_opd ! (load ! (from ! (hop ! (look ! 16 refl) (fld ! u₄ (stop !)))) (look_in ! 0 (within ! u 4 u₄ (whole !))))) (from ! (stop !)) (init ! 4 refl (fits_in u vs 4 u₄ g)) $
      assigns !
      (agg ! (and_then ! (load ! (from ! (stop !)) (look ! 8 refl))
      (and_then ! (load ! (from ! (stop !)) (look ! 6 refl)) (and_then ! (load ! (from ! (stop !)) (look ! 4 refl)) (no_more !))))) (from ! (stop !))
      (init ! 12 refl (taken_fits u s vs u₂ u₃ u₄ g)) $
      assigns ! (addr ! (from ! (hop ! (look ! 16 refl) (fld ! u₀ (stop !))))) (from ! (stop !)) (init ! 2 refl (tt, tt)) $
      apply ! {B = H.⇛ (Run 𝓛 υ τ b o End (C f (vptr b (o + d₀) ∷ vstruct (taken vs) ∷ v ∷ [])))} $ use1 𝓛
      (later (raw (Run 𝓛 υ τ b o End (C f (vptr b (o + d₀) ∷ vstruct (taken vs) ∷ v ∷ []))))) (id⊢ 𝓤 _) $ await ! tt $
      calls ! fm (Answering 𝓛 υ τ b o End) (and_then ! (load ! (from ! (stop !)) (look ! 1 refl))
      (and_then ! (load ! (from ! (stop !)) (look ! 11 refl)) (and_then ! (load ! (from ! (stop !)) (look ! 13 refl)) (no_more !)))) (λ w.
      await ! tt $ pick ! (λ z. learn ! (λ e. split ! $ land ! (from ! (stop !)) (init ! 10 refl e.0) $ rewrite ! 10 (λ (u : Val). ‵ (fat full_share τ l₄ 0 u)) e.1 refl $
      let g : Fits τ (vstruct (vcons (vstruct z.1) z.2)) = subst (Fits τ) e.1 e.0 in
      let g₀ : Fits ς (vstruct z.1) = fits_in p (vcons (vstruct z.1) z.2) 0 p₀ g in
      assigns ! (of_opd ! (load ! (from ! (fld ! p₀ (fld ! s₀ (stop !)))) (look_in ! 10 (within ! s 0 s₀ (within ! p 0 p₀ (whole !)))))) (from ! (hop ! (look ! 16 refl) (fld ! u₂ (stop !))))
      (store_in ! 0 (within ! u 2 u₂ (whole !)) (fits_in s z.1 0 s₀ g₀)) $
      assigns ! (of_opd ! (load ! (from ! (fld ! p₀ (fld ! s₁ (stop !)))) (look_in ! 10 (within ! s 1 s₁ (within ! p 0 p₀ (whole !)))))) (from ! (hop ! (look ! 16 refl) (fld ! u₃ (stop !))))
      (store_in ! 0 (within ! u 3 u₃ (whole !)) (fits_in s z.1 1 s₁ g₀)) $
      assigns ! (of_opd ! (load ! (from ! (fld ! p₀ (fld ! s₂ (stop !)))) (look_in ! 10 (within ! s 2 s₂ (within ! p 0 p₀ (whole !)))))) (from ! (hop ! (look ! 16 refl) (fld ! u₄ (stop !))))
      (store_in ! 0 (within ! u 4 u₄ (whole !)) (fits_in s z.1 2 s₂ g₀)) $
      assigns ! (of_opd ! (load ! (from ! (fld ! p₁ (stop !))) (look_in ! 10 (within ! p 1 p₁ (whole !))))) (from ! (stop !)) (init ! 18 refl (fits_in p (vcons (vstruct z.1) z.2) 1 p₁ g)) $
      apply ! {B = End z.2} $ returns ! (look ! 17 refl) $
      move ! (17 ∷ 18 ∷ 15 ∷ 16 ∷ 13 ∷ 14 ∷ 11 ∷ 12 ∷ 9 ∷ 10 ∷ 7 ∷ 8 ∷ 5 ∷ 6 ∷ 3 ∷ 4 ∷ 1 ∷ 2 ∷ []) $ gives_up ! $ gives_up ! $ gives_up ! $ gives_up ! $ gives_up ! $ gives_up ! $ gives_up !
      $ gives_up ! $ gives_up ! $ free0 ! $ done !)))))))))))))
    where
      End : Vals → SProp 𝓤
      End ns = Kf (get_v ns 0)

-- ** eleven locals: the slice is lent again, and the answer is two fields of what the callee answers

module _ {M : Type 1} {𝓤 : Ura M} (𝓛 : Logic 𝓤) (C : Calls 𝓤 𝓛.H) (Λ : Loops 𝓤 𝓛.H) (fm : FmC 𝓤 𝓛.H 𝓛.laws C) (υ τ ς σ₂ σ₃ σ₄ ρ₁ ρ₂ : Ty)
    {f : Callee} {α ω β : Ty} {ℓ₁ ℓ₂ ℓ₈ ℓ₉ : Lifetime} {μ₁ μ₂ μ₈ μ₉ : Mutability} {h₀ h₁ h₂ h₃ h₄ h₅ h₆ h₇ h₈ h₉ h₁₀ : Home} {ν π ξ χ ζ : Sym} {us ps : Tys} {d₁ d₂ d₃ d₄ c c₀ c₁ c₂ e₁ e₂ : ℕ} where
  open 𝓛 use {H}

  pub walks_eleven : (fn : Fn) → ◌≡◌ {A = List Local × Body} (fn.locals, fn.body) (
    local (ty_struct χ (tcons ρ₁ (tcons ρ₂ tnil))) h₀ ∷ local (ty_ref ℓ₁ μ₁ ω) h₁ ∷ local (slice ζ ℓ₂ μ₂ β) h₂ ∷ local ς h₃ ∷ local τ h₄ ∷ local σ₂ h₅ ∷ local σ₃ h₆ ∷ local σ₄ h₇ ∷ local
        (ty_ref ℓ₈ μ₈ α) h₈ ∷ local (ty_ref ℓ₉ μ₉ β) h₉ ∷ local (slice ζ ℓ₉ μ₉ β) h₁₀ ∷ [],
    takes υ
        (seq (assign (place 8 []) (addr_of (place 1 (deref υ ∷ field 1 ∷ []))))
        (seq (assign (place 9 []) (addr_of (place 2 (field 0 ∷ deref β ∷ []))))
        (seq (assign (place 10 []) (aggregate (copy (place 9 []) ∷ copy (place 2 (field 1 ∷ [])) ∷ [])))
        (seq (call f (copy (place 8 []) ∷ copy (place 3 []) ∷ copy (place 10 []) ∷ []) (place 4 []))
        (stores υ (seq (assign (place 0 []) (aggregate (copy (place 4 (field 1 ∷ [])) ∷ copy (place 4 (field 2 ∷ [])) ∷ []))) return)))))),
  )
      → υ ≡ ty_struct ν us → τ ≡ ty_struct π ps → ς ≡ ty_struct ξ (tcons σ₂ (tcons σ₃ (tcons σ₄ tnil)))
      → At υ 1 α d₁ → At υ 2 σ₂ d₂ → At υ 3 σ₃ d₃ → At υ 4 σ₄ d₄ → At τ 0 ς c → At ς 0 σ₂ c₀ → At ς 1 σ₃ c₁ → At ς 2 σ₄ c₂ → At τ 1 ρ₁ e₁ → At τ 2 ρ₂ e₂
      → (b o : ℕ) (x : ℕ × ℕ) (n : ℕ) → Fits (slice ζ ℓ₂ μ₂ β) (slice_val x n) → (vs : Vals) (Kf : Val → SProp 𝓤) (i j : Item 𝓤)
      → ent 𝓤 (⋆ 𝓛 (i ∷ j ∷ []))
      (mean 𝓛 (Asked 𝓛 υ τ b o (λ ns. Kf (vstruct (vcons (get_v ns 0) (vcons (get_v ns 1) vnil)))) vs (C f (vptr b (o + d₁) ∷ vstruct (taken vs) ∷ slice_val x n ∷ []))))
      → ent 𝓤 (⋆ 𝓛 (i ∷ j ∷ [])) (WpFn 𝓤 H C Λ fn (vptr b o ∷ slice_val x n ∷ []) Kf)
  walks_eleven fn is u p s u₁ u₂ u₃ u₄ p₀ s₀ s₁ s₂ p₁ p₂ b o x n fit vs Kf i j asked =
      qed 𝓛 (i ∷ j ∷ []) ∵ enter ! C Λ fn (vptr b o ∷ slice_val x n ∷ []) Kf $ regoal !
      (λ (g : List Local × Body). allocs g.0 (λ E. params' E (vptr b o ∷ slice_val x n ∷ []) (runs C Λ E g.1 (at_ret E Kf)))) is refl $
      alloc1 ! (λ l₀. alloc1 !
      (λ l₁. alloc1 !
      (λ l₂. alloc1 !
      (λ l₃. alloc1 !
      (λ l₄. alloc1 !
      (λ l₅. alloc1 !
      (λ l₆. alloc1 ! (λ l₇. alloc1 ! (λ l₈. alloc1 ! (λ l₉. alloc1 ! (λ l₁₀. alloc0 ! $ params1 ! $ pass1 ! (init ! 18 refl (tt, tt)) $ pass1 ! (init ! 16 refl fit) $ pass0 ! $
      -- [the unit; the call; _10; …; _9; …; …; _0; …]
      move ! (22 ∷ 23 ∷ []) $ use2 𝓛 (Asked 𝓛 υ τ b o End vs (C f (vptr b (o + d₁) ∷ vstruct (taken vs) ∷ slice_val x n ∷ []))) asked $ await ! tt $ split ! $ well_typed ! (λ g.
      assigns ! (of_opd ! (load ! (from ! (hop ! (look ! 20 refl) (fld ! u₂ (stop !)))) (look_in ! 0 (within ! u 2 u₂ (whole !))))) (from ! (stop !)) (init ! 12 refl (fits_in u vs 2 u₂ g)) $
      assigns ! (of_opd ! (load ! (from ! (hop ! (look ! 20 refl) (fld ! u₃ (stop !)))) (look_in ! 0 (within ! u 3 u₃ (whole !))))) (from ! (stop !)) (init ! 10 refl (fits_in u vs 3 u₃ g)) $
      assigns ! (of_opd ! (load ! (from ! (hop ! (look ! 20 refl) (fld ! u₄ (stop !)))) (look_in ! 0 (within ! u 4 u₄ (whole !))))) (from ! (stop !)) (init ! 8 refl (fits_in u vs 4 u₄ g)) $
      assigns !
      (agg ! (and_then ! (load ! (from ! (stop !)) (look ! 12 refl))
      (and_then ! (load ! (from ! (stop !)) (look ! 10 refl)) (and_then ! (load ! (from ! (stop !)) (look ! 8 refl)) (no_more !))))) (from ! (stop !))
      (init ! 16 refl (taken_fits u s vs u₂ u₃ u₄ g)) $
      assigns ! (addr ! (from ! (hop ! (look ! 20 refl) (fld ! u₁ (stop !))))) (from ! (stop !)) (init ! 6 refl (tt, tt)) $
      assigns ! (addr ! (from ! (fld ! refl (hop ! (look_in ! 18 (sub ! 0 refl (whole !))) (stop !))))) (from ! (stop !)) (init ! 4 refl (tt, tt)) $
      assigns ! (agg ! (and_then ! (load ! (from ! (stop !)) (look ! 4 refl)) (and_then ! (load ! (from ! (fld ! refl (stop !))) (look_in ! 18 (sub ! 1 refl (whole !)))) (no_more !))))
      (from ! (stop !)) (init ! 2 refl fit) $
      apply ! {B = H.⇛ (Run 𝓛 υ τ b o End (C f (vptr b (o + d₁) ∷ vstruct (taken vs) ∷ slice_val x n ∷ [])))} $ use1 𝓛
      (later (raw (Run 𝓛 υ τ b o End (C f (vptr b (o + d₁) ∷ vstruct (taken vs) ∷ slice_val x n ∷ []))))) (id⊢ 𝓤 _) $ await ! tt $
      calls ! fm (Answering 𝓛 υ τ b o End) (and_then ! (load ! (from ! (stop !)) (look ! 5 refl))
      (and_then ! (load ! (from ! (stop !)) (look ! 15 refl)) (and_then ! (load ! (from ! (stop !)) (look ! 1 refl)) (no_more !)))) (λ w.
      await ! tt $ pick ! (λ z. learn ! (λ e. split ! $ land ! (from ! (stop !)) (init ! 14 refl e.0) $ rewrite ! 14 (λ (u : Val). ‵ (fat full_share τ l₄ 0 u)) e.1 refl $
      let g : Fits τ (vstruct (vcons (vstruct z.1) z.2)) = subst (Fits τ) e.1 e.0 in
      let g₀ : Fits ς (vstruct z.1) = fits_in p (vcons (vstruct z.1) z.2) 0 p₀ g in
      assigns ! (of_opd ! (load ! (from ! (fld ! p₀ (fld ! s₀ (stop !)))) (look_in ! 14 (within ! s 0 s₀ (within ! p 0 p₀ (whole !)))))) (from ! (hop ! (look ! 20 refl) (fld ! u₂ (stop !))))
      (store_in ! 0 (within ! u 2 u₂ (whole !)) (fits_in s z.1 0 s₀ g₀)) $
      assigns ! (of_opd ! (load ! (from ! (fld ! p₀ (fld ! s₁ (stop !)))) (look_in ! 14 (within ! s 1 s₁ (within ! p 0 p₀ (whole !)))))) (from ! (hop ! (look ! 20 refl) (fld ! u₃ (stop !))))
      (store_in ! 0 (within ! u 3 u₃ (whole !)) (fits_in s z.1 1 s₁ g₀)) $
      assigns ! (of_opd ! (load ! (from ! (fld ! p₀ (fld ! s₂ (stop !)))) (look_in ! 14 (within ! s 2 s₂ (within ! p 0 p₀ (whole !)))))) (from ! (hop ! (look ! 20 refl) (fld ! u₄ (stop !))))
      (store_in ! 0 (within ! u 4 u₄ (whole !)) (fits_in s z.1 2 s₂ g₀)) $
      assigns !
      (agg ! (and_then ! (load ! (from ! (fld ! p₁ (stop !))) (look_in ! 14 (within ! p 1 p₁ (whole !))))
      (and_then ! (load ! (from ! (fld ! p₂ (stop !))) (look_in ! 14 (within ! p 2 p₂ (whole !)))) (no_more !)))) (from ! (stop !))
      (init ! 22 refl (also ρ₁ (get_v z.2 0) (tcons ρ₂ tnil) (vcons (get_v z.2 1) vnil) (fits_in p (vcons (vstruct z.1) z.2) 1 p₁ g)
      (also ρ₂ (get_v z.2 1) tnil vnil (fits_in p (vcons (vstruct z.1) z.2) 2 p₂ g) (tt, tt)))) $
      apply ! {B = End z.2} $ returns ! (look ! 21 refl) $
      move ! (21 ∷ 22 ∷ 19 ∷ 20 ∷ 17 ∷ 18 ∷ 15 ∷ 16 ∷ 13 ∷ 14 ∷ 11 ∷ 12 ∷ 9 ∷ 10 ∷ 7 ∷ 8 ∷ 5 ∷ 6 ∷ 3 ∷ 4 ∷ 1 ∷ 2 ∷ []) $ gives_up ! $ gives_up ! $ gives_up ! $ gives_up ! $ gives_up ! $
      gives_up ! $ gives_up ! $ gives_up ! $ gives_up ! $ gives_up ! $ gives_up ! $ free0 ! $ done !)))))))))))))))
    where
      End : Vals → SProp 𝓤
      End ns = Kf (vstruct (vcons (get_v ns 0) (vcons (get_v ns 1) vnil)))
