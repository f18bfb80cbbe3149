-- Calls one after the other on the same bytes: each sees just the unit that the definitions gave, so that a run from power-on is the definitions' run.
-- Assumes nothing.
use Prim.Native.Nat.{ℕ}
use mathlib.Core.Path.{◌≡◌, refl, sym, ap, ◌∙◌, subst}
use mathlib.Core.Bool.{true}
use mathlib.Core.List.{List, [], ◌∷◌}
use mathlib.Core.Logic.{⊎_elim}
use native.Mathlib.Omega.{arith}
use Rattle.rules.specs.Answers.{DONE, Leaves, unchanged, leaves}
use Rattle.port.specs.Answer.{Answer}
use Rattle.port.specs.Device.{Device, Result, is_sound, power_on}
use Rattle.port.specs.Step.{Call, step, run, after}
use Rattle.port.specs.Laws.{Stored, LeftAs}
use Rattle.port.specs.declared.types.Setting.{Setting}
use Rattle.port.proofs.KeepsOut.{cases}
use Rattle.port.proofs.Calls.{power_on_sound, power_on_stored, unsound_refused, keeps_sound, keeps_stored, leaves_table}
use Rattle.c_bytes.specs.Layout.{is_unit, unit_in, unit_bytes}
use Rattle.c_bytes.proofs.Again.{unit_in_its_bytes}
use Rattle.c_bytes.proofs.Parted.{unit_stored}
use Rattle.c_bytes.proofs.Narrow.{fits, unit_again}
use Rattle.c_promise.specs.Promise.{Lent, BytesResult, result_bytes, on_bytes}
use Rattle.c_promise.proofs.Called.{on_unit, on_none, again}
use Rattle.tewennos.specs.Run.{run_bytes, after_bytes}

-- ** one call on any bytes

module _ (u : List ℕ) (lent : Lent u) (c : Call) where
  abbrev told : BytesResult → ℕ
  told q = q.answer.verdict.number

  unchanged_by : is_unit u ≡ true → (told (result_bytes (step (unit_in u) c)) ≡ DONE → ⊥) → leaves (told (result_bytes (step (unit_in u) c))) ≡ unchanged → unit_bytes (step (unit_in u) c).unit ≡ u
  unchanged_by is n e =
      let stays = subst (λ (x : Leaves). LeftAs x (unit_in u) (step (unit_in u) c)) e (leaves_table (unit_in u) c n) in
      ap (λ (q : Result). unit_bytes q.unit) stays ∙ again u lent is

  -- a call that the table answers with the unit unchanged writes no byte of it, whatever bytes it was lent
  pub refused_unchanged : (told (on_bytes u c) ≡ DONE → ⊥) → leaves (told (on_bytes u c)) ≡ unchanged → (on_bytes u c).unit ≡ u
  refused_unchanged n e =
      ⊎_elim
      (λ is. let k = on_unit u c is in ap (λ (q : BytesResult). q.unit) k ∙ unchanged_by is (rw k at n) (rw k at e))
      (λ is. ap (λ (q : BytesResult). q.unit) (on_none u c is))
      (cases (is_unit u))

  -- what a call leaves of a unit is a unit's bytes, and the next call sees the unit that the definitions gave
  module _ (is : is_unit u ≡ true) where
    stored : Stored (unit_in u)
    stored = unit_stored u (omega (arith, lent.long))

    pub next_unit : (is_unit (unit_bytes (step (unit_in u) c).unit) ≡ true) × (unit_in (unit_bytes (step (unit_in u) c).unit) ≡ (step (unit_in u) c).unit)
    next_unit =
        let q = step (unit_in u) c in
        let kept = keeps_stored (unit_in u) c stored in (
          unit_again q.unit kept,
          ⊎_elim (λ e. unit_in_its_bytes q.unit (fits q.unit kept (keeps_sound (unit_in u) c e)))
              (λ e. let k = ap (λ (p : Result). p.unit) (unsound_refused (unit_in u) c e) in ap (λ (d : Device). unit_in (unit_bytes d)) k ∙ ap unit_in (again u lent is) ∙ sym k)
              (cases (is_sound (unit_in u))),
        )

-- ** a run from a sound unit

pub call_again : (d : Device) → Stored d → is_sound d ≡ true → (c : Call) → on_bytes (unit_bytes d) c ≡ result_bytes (step d c)
call_again d stored e c = on_unit (unit_bytes d) c (unit_again d stored) ∙ ap (λ (x : Device). result_bytes (step x c)) (unit_in_its_bytes d (fits d stored e))

run_again : (d : Device) → Stored d → is_sound d ≡ true → (cs : List Call) → run_bytes (unit_bytes d) cs ≡ run step d cs
unfolding run_bytes run
run_again d stored e [] = refl
run_again d stored e (c ∷ cs) =
    ap (λ (q : BytesResult). q.answer ∷ run_bytes q.unit cs) (call_again d stored e c)
    ∙ ap (λ (rest : List Answer). (step d c).answer ∷ rest) (run_again (step d c).unit (keeps_stored d c stored) (keeps_sound d c e) cs)

after_again : (d : Device) → Stored d → is_sound d ≡ true → (cs : List Call) → after_bytes (unit_bytes d) cs ≡ unit_bytes (after step d cs)
unfolding after_bytes after
after_again d stored e [] = refl
after_again d stored e (c ∷ cs) =
    ap (λ (q : BytesResult). after_bytes q.unit cs) (call_again d stored e c)
    ∙ after_again (step d c).unit (keeps_stored d c stored) (keeps_sound d c e) cs

-- ** a run from power-on

module _ (setting : Setting) (cs : List Call) where
  pub run_bytes_lem : run_bytes (unit_bytes (power_on setting).unit) cs ≡ run step (power_on setting).unit cs
  run_bytes_lem = run_again (power_on setting).unit (power_on_stored setting) (power_on_sound setting) cs

  pub after_bytes_lem : after_bytes (unit_bytes (power_on setting).unit) cs ≡ unit_bytes (after step (power_on setting).unit cs)
  after_bytes_lem = after_again (power_on setting).unit (power_on_stored setting) (power_on_sound setting) cs
