-- A call on bytes, by whether they are a sound unit's: those of another are answered 1 and stay, and so do those of a unit that a call refuses.
-- Assumes nothing.
use Prim.Native.Nat.{ℕ}
use mathlib.Core.Path.{◌≡◌, refl, sym, ap, ◌∙◌, subst}
use mathlib.Core.Bool.{Bool, true, false}
use mathlib.Core.List.{List}
use mathlib.Core.Logic.{⊎_elim}
use lib.ListN.{length}
use Rattle.std.specs.Prelude.{Result as OkOr, Ok, Err}
use Rattle.rules.specs.Answers.{UNSOUND, number_of}
use Rattle.rules.specs.declared.refusal.Refusal.{Refusal}
use Rattle.rules.specs.declared.refusal.Refusal.TheVariants.{Unsound}
use Rattle.port.specs.declared.types.State.{State}
use Rattle.rules.proofs.Choice.{pick_true, pick_false, at_true, at_false, both_left, both_right, not_both}
use Rattle.wire.specs.Bytes.{into}
use Rattle.port.specs.Sound.{sound}
use Rattle.port.specs.Answer.{numbered}
use Rattle.port.specs.Device.{Result}
use Rattle.port.specs.Calls.{refused}
use Rattle.port.specs.Step.{Call, soundly, step}
use Rattle.port.proofs.KeepsOut.{cases}
use Rattle.port.proofs.Calls.{step_sound, unsound_refused}
use Rattle.c_bytes.specs.Layout.{UNIT, state_in, unit_in, unit_bytes, is_unit, Bytes}
use Rattle.c_bytes.proofs.Again.{bytes_of_its_unit}
use Rattle.c_parts.proofs.Puts.{Holds, unit_holds}
use Rattle.c_promise.specs.Promise.{is_sound_unit, Lent, Decided, BytesResult, result_bytes, kept_of, on_bytes, Returns, Fills, answer_of}
use Rattle.c_promise.specs.declared.types.TmcAnswer.{TmcAnswer}

abbrev pub Either : Type 0 → Type 0
Either A = OkOr A Refusal

-- what a gate can say
abbrev pub Gate : Type 0
Gate = Either (Unit {0})

-- bytes that are a unit's, and those that are not
module _ (u : List ℕ) (c : Call) where
  pub on_unit : is_unit u ≡ true → on_bytes u c ≡ result_bytes (step (unit_in u) c)
  unfolding on_bytes
  on_unit e = at_true _ _ _ e

  pub on_none : is_unit u ≡ false → on_bytes u c ≡ kept_of u UNSOUND
  unfolding on_bytes
  on_none e = at_false _ _ _ e

pub state_sound : (u : List ℕ) → is_sound_unit u ≡ true → sound (state_in u) ≡ true
state_sound u e = both_right (is_unit u) _ e

module _ (u : List ℕ) (lent : Lent u) where
  pub again : is_unit u ≡ true → unit_bytes (unit_in u) ≡ u
  again is = bytes_of_its_unit u lent.long lent.small is

  pub holds : is_sound_unit u ≡ true → Holds (unit_in u) u
  holds e = unit_holds u lent.long lent.small (both_left _ _ e)

  module _ (c : Call) where
    unsound_left : is_sound_unit u ≡ false → on_bytes u c ≡ kept_of u UNSOUND
    unfolding unit_in
    unsound_left e =
        ⊎_elim
        (λ is. on_unit u c is ∙ ap result_bytes (unsound_refused (unit_in u) c (not_both _ _ e is)) ∙ ap (λ (v : List ℕ). kept_of v UNSOUND) (again is))
        (λ is. on_none u c is)
        (cases (is_unit u))

    module _ (e : is_sound_unit u ≡ true) where
      sound_left : on_bytes u c ≡ result_bytes (soundly (unit_in u) c)
      unfolding unit_in
      sound_left = on_unit u c (both_left _ _ e) ∙ ap result_bytes (step_sound (unit_in u) c (state_sound u e))

      -- a refusal: nothing is written
      module _ (n : ℕ) (refuses : soundly (unit_in u) c ≡ refused (unit_in u) n) where
        refused_left : on_bytes u c ≡ kept_of u n
        refused_left = sound_left ∙ ap result_bytes refuses ∙ ap (λ (v : List ℕ). kept_of v n) (again (both_left _ _ e))

      -- a result, whose unit the bytes hold at the end
      module _ (q : Result) (is : soundly (unit_in u) c ≡ q) (u' : List ℕ) (r : TmcAnswer) (h : Holds q.unit u') (a : r ≡ answer_of q.answer) where
        pub returning : Returns (on_bytes u c) u' r
        returning = subst (λ (l : BytesResult). Returns l u' r) (sym (sound_left ∙ ap result_bytes is)) (record { unit = h.bytes; answer = a })

        pub fills : (b b' : List ℕ) → b' ≡ into q.answer.bytes b → Fills (on_bytes u c) b b' u' r
        fills b b' f = record { returned = returning; buffer = f ∙ ap (λ (l : BytesResult). into l.answer.bytes b) (sym (sound_left ∙ ap result_bytes is)) }

    -- nothing is written where a sound unit is refused with a number, and another with 1
    pub stays : (n : ℕ) → (is_sound_unit u ≡ true → soundly (unit_in u) c ≡ refused (unit_in u) n) → (is_sound_unit u ≡ false → n ≡ UNSOUND) → on_bytes u c ≡ kept_of u n
    stays n sounds unsounds =
        ⊎_elim
        (λ e. refused_left e n (sounds e))
        (λ e. unsound_left e ∙ ap (kept_of u) (sym (unsounds e)))
        (cases (is_sound_unit u))

    -- a number, and the bytes as they were: of a refusal, or of a unit that is not sound
    module _ (n : ℕ) (r : TmcAnswer) (a : r ≡ answer_of (numbered n)) where
      pub kept : on_bytes u c ≡ kept_of u n → Returns (on_bytes u c) u r
      kept e = subst (λ (l : BytesResult). Returns l u r) (sym e) (record { unit = refl; answer = a })

      pub kept_into : on_bytes u c ≡ kept_of u n → (b : List ℕ) → Fills (on_bytes u c) b b u r
      kept_into e b = record { returned = kept e; buffer = ap (λ (l : BytesResult). into l.answer.bytes b) (sym e) }

-- ** what is decided over the bytes

module _ {A : Type 0} {u : List ℕ} {x y r : A} where
  -- by code that asks first whether they are a sound unit's
  module _ {b : Bool} (asked : (b ≡ is_sound_unit u) × Bytes u) (long : length u ≡ UNIT) where
    pub on_sound : b ≡ true → r ≡ x → Decided u x y r
    on_sound e f = record { is = pick_true _ _ _ _ (sym asked.0 ∙ e) f; lent = record { long = long; small = asked.1 } }

    pub on_other : b ≡ false → r ≡ y → Decided u x y r
    on_other e f = record { is = pick_false _ _ _ _ (sym asked.0 ∙ e) f; lent = record { long = long; small = asked.1 } }

  -- what is not said of others is said of a sound unit
  module _ (h : Decided u x y r) (other : r ≡ y → ⊥) where
    pub sound_unit : is_sound_unit u ≡ true
    sound_unit = ⊎_elim (λ e. e) (λ e. absurd (other (h.is ∙ at_false _ _ _ e))) (cases (is_sound_unit u))

    pub comes : x ≡ r
    comes = sym (h.is ∙ at_true _ _ _ sound_unit)

-- the state of a sound unit
pub state_found : {u : List ℕ} {told : Either State} → Decided u (Ok (state_in u)) (Err Unsound) told → (st : State) → told ≡ Ok st → (is_sound_unit u ≡ true) × (state_in u ≡ st)
state_found {u} h st e =
    let both : ◌≡◌ {A = Either State} (Ok (state_in u)) (Ok st) = comes h (λ z. is_err (sym z ∙ e)) ∙ e in
    (sound_unit h (λ z. is_err (sym z ∙ e)), cc)
  where
    is_err : ◌≡◌ {A = Either State} (Err Unsound) (Ok st) → ⊥
    is_err z = cc

-- and what is decided over it
module _ {A : Type 0} {u : List ℕ} {x y : A} {told : Either State} (h : Decided u (Ok (state_in u)) (Err Unsound) told) where
  pub by_state : (f : State → A) → x ≡ f (state_in u) → (st : State) → told ≡ Ok st → (r : A) → r ≡ f st → Decided u x y r
  by_state f is st e r k = let s = state_found h st e in record { is = pick_true _ _ _ _ s.0 (k ∙ ap f (sym s.1) ∙ sym is); lent = h.lent }

  -- others are refused, whatever is made of that
  pub by_none : (f : Refusal → A) → y ≡ f Unsound → (k : Refusal) → told ≡ Err k → (r : A) → r ≡ f k → Decided u x y r
  by_none f is k e r g = record { is = pick_false _ _ _ _ unsound (g ∙ ap f same ∙ sym is); lent = h.lent }
    where
      unsound : is_sound_unit u ≡ false
      unsound = ⊎_elim (λ s. absurd (let z : ◌≡◌ {A = Either State} (Ok (state_in u)) (Err k) = sym (at_true _ _ _ s) ∙ sym h.is ∙ e in cc)) (λ s. s) (cases (is_sound_unit u))

      same : k ≡ Unsound
      same = let z : ◌≡◌ {A = Either State} (Err Unsound) (Err k) = sym (at_false _ _ _ unsound) ∙ sym h.is ∙ e in cc

-- no rule applies: the unit is sound
module _ {u : List ℕ} {x told : Either (Unit {0})} (h : Decided u x (Err Unsound) told) (z : told ≡ Ok tt) where
  pub is_sound_lem : is_sound_unit u ≡ true
  is_sound_lem = sound_unit h (λ e. let k : ◌≡◌ {A = Either (Unit {0})} (Err Unsound) (Ok tt) = sym e ∙ z in cc)

  pub by_rules : told ≡ x
  by_rules = sym (comes h (λ e. let k : ◌≡◌ {A = Either (Unit {0})} (Err Unsound) (Ok tt) = sym e ∙ z in cc))

-- a call whose rules are asked first: one applies, and it is refused; or the bytes are no sound unit's
module _ (u : List ℕ) (c : Call) {A : Type 0} {x told : Either A} (h : Decided u x (Err Unsound) told) (k : Refusal) (shut : told ≡ Err k)
    (refuses : is_sound_unit u ≡ true → told ≡ x → soundly (unit_in u) c ≡ refused (unit_in u) (number_of k)) (r : TmcAnswer) (a : r ≡ answer_of (numbered (number_of k))) where
  first : told ≡ Err Unsound → number_of k ≡ UNSOUND
  first e =
      let z : ◌≡◌ {A = Either A} (Err k) (Err Unsound) = sym shut ∙ e in
      let same : k ≡ Unsound = cc in
      ap number_of same

  stayed : on_bytes u c ≡ kept_of u (number_of k)
  stayed = stays u h.lent c (number_of k) (λ e. refuses e (h.is ∙ at_true _ _ _ e)) (λ e. first (h.is ∙ at_false _ _ _ e))

  pub refusal : Returns (on_bytes u c) u r
  refusal = kept u h.lent c (number_of k) r a stayed

  pub refusal_into : (b : List ℕ) → Fills (on_bytes u c) b b u r
  refusal_into = kept_into u h.lent c (number_of k) r a stayed
