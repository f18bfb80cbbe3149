-- What a caller has seen of any run from power-on, buffers, numbers and tellings, is a trace of the definitions, and the unit that is left is theirs: from
-- C, by value and in place. So what holds of every trace from power-on holds of all that a caller sees (`c_holds`, `unit_holds`).
-- Assumes nothing.
use Prim.Native.Nat.{ℕ}
use mathlib.Core.Path.{◌≡◌, refl, sym, ap, ◌∙◌, subst}
use mathlib.Core.Bool.{true}
use mathlib.Core.List.{List, ◌∷◌}
use mathlib.Core.Logic.{◌⊎◌, inl, inr}
use native.Mathlib.Omega.{arith}
use Rattle.port.specs.Device.{Device, is_sound, power_on}
use Rattle.port.specs.Step.{in_poll, interrupt_poll, offer_reply, set_status, front_panel, bus_suspend}
use Rattle.port.specs.Step.{Call, setup_packet, out_packet, take_into, bus_reset, quiet, step, after}
use Rattle.port.specs.Trace.{Event, trace, AllInOctets, calls_of}
use Rattle.port.specs.Laws.{Stored}
use Rattle.port.specs.declared.types.Setting.{Setting}
use Rattle.port.proofs.Calls.{power_on_sound, power_on_stored, keeps_sound, keeps_stored}
use Rattle.port.proofs.Silent.{Mute, packet, offers, sets, panels, suspends, resets, silent}
use Rattle.c_bytes.specs.Layout.{is_unit, unit_in, unit_bytes}
use Rattle.c_bytes.proofs.Parted.{unit_stored}
use Rattle.c_promise.specs.Promise.{Lent, BytesResult, result_bytes, on_bytes, Returns, Fills}
use Rattle.c_promise.proofs.Called.{again}
use Rattle.tewennos.proofs.Chain.{call_again}
use Rattle.tewennos.proofs.Public.{left_step, filled_step}
use Rattle.unit.specs.Promise.{device_of, done_of}
use Rattle.unit.specs.declared.types.Unit.{Unit}
use Rattle.unit.specs.declared.types.Done.{Done}
use Rattle.unit.proofs.Public.{new_step, done_step, told_step}
use Rattle.unit_inplace.proofs.Public.{packet_in_place_step, poll_in_place_step}
use Rattle.claims_caller.specs.Seen.{Lends, sets_up, polls, interrupts, takes, OneByC, unlent, lent, OneByUnit, returns}
use Rattle.claims_caller.specs.Seen.{writes, packet_in_place, poll_in_place, Seen, none, then, SeenByC, SeenByUnit}

-- every call is lent a buffer or not: none is left out
pub lends_or_not : (c : Call) → Mute c ⊎ ((room : ℕ) × Lends c room)
lends_or_not (setup_packet p) = inr (p.room, sets_up p.packet p.room)
lends_or_not (out_packet s) = inl (packet s)
lends_or_not (take_into room) = inr (room, takes room)
lends_or_not bus_reset = inl resets
lends_or_not (quiet (in_poll room)) = inr (room, polls room)
lends_or_not (quiet (interrupt_poll room)) = inr (room, interrupts room)
lends_or_not (quiet (offer_reply bytes)) = inl (offers bytes)
lends_or_not (quiet (set_status status)) = inl (sets status)
lends_or_not (quiet front_panel) = inl panels
lends_or_not (quiet bus_suspend) = inl suspends

-- ** calls of either kind, where `Is` says which unit of the definitions a unit is

module _ {U : Type 0} (One : U → Event → U → Type 0) where
  pub in_octets : {u : U} {es : List Event} {u' : U} → Seen One u es u' → AllInOctets (calls_of es)
  in_octets (none _) = tt
  in_octets (then _ _ _ _ _ o _ k) = (o, in_octets k)

  -- one call is the definitions' step
  abbrev Steps : (Device → U → Type 0) → Device → Event → U → Type 0
  Steps Is d e v = (e.answer ≡ (step d e.call).answer) × Is (step d e.call).unit v

  module _ (Is : Device → U → Type 0) (one : (d : Device) (u : U) (e : Event) (v : U) → Is d u → One u e v → Steps Is d e v) where
    is_trace : {u : U} {es : List Event} {u' : U} → Seen One u es u' → (d : Device) → Is d u → (es ≡ trace step d (calls_of es)) × Is (after step d (calls_of es)) u'
    unfolding trace after
    is_trace (none _) d is = (refl, is)
    is_trace (then u v _ e _ _ h k) d is =
        let now = one d u e v is h in
        let rest = is_trace k (step d e.call).unit now.1 in
        (λ i. record { call = e.call; answer = now.0 i } ∷ rest.0 i, rest.1)

-- ** from C

-- the bytes of a sound unit
record SoundBytes (d : Device) (u : List ℕ) : Type 0 where
  bytes : u ≡ unit_bytes d
  stored : Stored d
  sound : is_sound d ≡ true

module _ (d : Device) (u : List ℕ) (is : SoundBytes d u) where
  next : (c : Call) (v : List ℕ) → v ≡ unit_bytes (step d c).unit → SoundBytes (step d c).unit v
  next c v e = record { bytes = e; stored = keeps_stored d c is.stored; sound = keeps_sound d c is.sound }

  on_unit_bytes : (c : Call) → on_bytes u c ≡ result_bytes (step d c)
  on_unit_bytes c = ap (λ (w : List ℕ). on_bytes w c) is.bytes ∙ call_again d is.stored is.sound c

one_by_c : (d : Device) (u : List ℕ) (e : Event) (v : List ℕ) → SoundBytes d u → OneByC u e v → Steps OneByC SoundBytes d e v
one_by_c d u e v is (unlent c _ r m h) =
    let s = left_step (step d c) v r (silent d c m) (subst (λ (q : BytesResult). Returns q v r) (on_unit_bytes d u is c) h) in
    (λ i. record { verdict = s.verdict i; bytes = sym s.bytes i }, next d u is c v s.unit)
one_by_c d u e v is (lent c b b' _ r _ h) =
    let s = filled_step (step d c) v r b b' (subst (λ (q : BytesResult). Fills q b b' v r) (on_unit_bytes d u is c) h) in
    (λ i. record { verdict = s.verdict i; bytes = s.bytes i }, next d u is c v s.unit)

-- from the bytes of any sound unit
module _ (d : Device) (stored : Stored d) (sound : is_sound d ≡ true) (u : List ℕ) (is : u ≡ unit_bytes d) (es : List Event) (u' : List ℕ) (h : SeenByC u es u') where
  pub c_trace_from : (es ≡ trace step d (calls_of es)) × (u' ≡ unit_bytes (after step d (calls_of es)))
  c_trace_from = let t = is_trace OneByC SoundBytes one_by_c h d (record { bytes = is; stored = stored; sound = sound }) in (t.0, t.1.bytes)

-- from any bytes that are those of a sound unit
module _ (u : List ℕ) (Lent-is : Lent u) (is : is_unit u ≡ true) (sound : is_sound (unit_in u) ≡ true) (es : List Event) (u' : List ℕ) (h : SeenByC u es u') where
  pub c_stored : Stored (unit_in u)
  c_stored = unit_stored u (omega (arith, Lent-is.long))

  pub c_from : (es ≡ trace step (unit_in u) (calls_of es)) × (u' ≡ unit_bytes (after step (unit_in u) (calls_of es)))
  c_from = c_trace_from (unit_in u) c_stored sound u (sym (again u Lent-is is)) es u' h

  pub c_bytes : AllInOctets (calls_of es)
  c_bytes = in_octets OneByC h

-- from power-on
module _ (setting : Setting) where
  module _ (es : List Event) (u' : List ℕ) (h : SeenByC (unit_bytes (power_on setting).unit) es u') where
    c_ever : (es ≡ trace step (power_on setting).unit (calls_of es)) × (u' ≡ unit_bytes (after step (power_on setting).unit (calls_of es)))
    c_ever = c_trace_from (power_on setting).unit (power_on_stored setting) (power_on_sound setting) _ refl es u' h

    pub c_trace : es ≡ trace step (power_on setting).unit (calls_of es)
    c_trace = c_ever.0

    pub c_left : u' ≡ unit_bytes (after step (power_on setting).unit (calls_of es))
    c_left = c_ever.1

    pub c_octets : AllInOctets (calls_of es)
    c_octets = in_octets OneByC h

  -- what holds of every trace of bytes
  pub c_holds : (Holds : List Event → Type 0) → ((calls : List Call) → AllInOctets calls → Holds (trace step (power_on setting).unit calls))
      → (es : List Event) (u' : List ℕ) → SeenByC (unit_bytes (power_on setting).unit) es u' → Holds es
  c_holds Holds always es u' h = subst Holds (sym (c_trace es u' h)) (always (calls_of es) (c_octets es u' h))

-- ** by value and in place

abbrev IsUnit : Device → Unit → Type 0
IsUnit d u = device_of u ≡ d

one_by_unit : (u : Unit) (e : Event) (v : Unit) → OneByUnit u e v → Steps OneByUnit IsUnit (device_of u) e v
one_by_unit u e v (returns c r m h) = let s = done_step u c r h m in (λ i. record { verdict = s.verdict i; bytes = sym s.bytes i }, s.unit)
one_by_unit u e v (writes c b b' t _ h) = let s = told_step u c b b' t h in (λ i. record { verdict = s.verdict i; bytes = s.bytes i }, s.unit)
one_by_unit u e v (packet_in_place p _ r h) = let s = packet_in_place_step u p v r h in (λ i. record { verdict = s.verdict i; bytes = sym s.bytes i }, s.unit)
one_by_unit u e v (poll_in_place b b' _ r h) = let s = poll_in_place_step u b b' v r h in (λ i. record { verdict = s.verdict i; bytes = s.bytes i }, s.unit)

-- from any unit, sound or not
module _ (d : Device) (u : Unit) (is : device_of u ≡ d) (es : List Event) (u' : Unit) (h : SeenByUnit u es u') where
  pub unit_trace_from : (es ≡ trace step d (calls_of es)) × (device_of u' ≡ after step d (calls_of es))
  unit_trace_from = is_trace OneByUnit IsUnit (λ _ w e v k o. subst (λ (x : Device). Steps OneByUnit IsUnit x e v) k (one_by_unit w e v o)) h d is

-- from power-on
module _ (setting : Setting) (r : Done) (meets : r ≡ done_of (power_on setting)) where
  module _ (es : List Event) (u' : Unit) (h : SeenByUnit r.unit es u') where
    unit_ever : (es ≡ trace step (power_on setting).unit (calls_of es)) × (device_of u' ≡ after step (power_on setting).unit (calls_of es))
    unit_ever = unit_trace_from (power_on setting).unit r.unit (new_step setting r meets).unit es u' h

    pub unit_trace : es ≡ trace step (power_on setting).unit (calls_of es)
    unit_trace = unit_ever.0

    pub unit_left : device_of u' ≡ after step (power_on setting).unit (calls_of es)
    unit_left = unit_ever.1

    pub unit_octets : AllInOctets (calls_of es)
    unit_octets = in_octets OneByUnit h

  pub unit_holds : (Holds : List Event → Type 0) → ((calls : List Call) → AllInOctets calls → Holds (trace step (power_on setting).unit calls))
      → (es : List Event) (u' : Unit) → SeenByUnit r.unit es u' → Holds es
  unit_holds Holds always es u' h = subst Holds (sym (unit_trace es u' h)) (always (calls_of es) (unit_octets es u' h))
