-- THE CLAIMS, each named again for what C has seen (`c-..`), from power-on or from the bytes of any sound unit, and for a unit by value or where it stands
-- (`unit-..`). Each is one line: what was seen is a trace of the definitions (Seen).
-- Assumes nothing.
use Prim.Native.Nat.{ℕ, ◌+◌}
use mathlib.Core.Path.{◌≡◌, refl, sym, ap, ◌∙◌, subst}
use mathlib.Core.Bool.{true}
use mathlib.Core.Logic.{◌⊎◌, inl, inr, ⊎_elim}
use Rattle.rules.specs.Answers.{done}
use Rattle.rules.specs.When.{Not}
use mathlib.Core.List.{List, [], ◌∷◌, ◌++◌, head-eq_of_cons-eq, tail-eq_of_cons-eq}
use Rattle.port.specs.Parts.{packet_size, out_of}
use Rattle.port.specs.Answer.{Answer}
use Rattle.port.specs.Device.{Device, is_sound, power_on}
use Rattle.port.specs.Step.{in_poll, Call, quiet, setup_of, step, run, after}
use Rattle.port.specs.Trace.{Event, trace, AllInOctets, calls_of}
use Rattle.port.specs.When.{given}
use Rattle.port.specs.Survivors.{survivors}
use Rattle.port.specs.Laws.{Stored, INITIATE_CLEAR, CHECK_CLEAR_STATUS, CLEAR_FEATURE_IN, Succeeds, success, Attends, Ready as Ready-to-clear}
use Rattle.port.specs.Reply.{unread, reader_of, Reading}
use Rattle.port.specs.Service.{unwatched, bit6, Watching, watch_of}
use Rattle.port.specs.declared.types.Setting.{Setting}
use Rattle.port.proofs.Clearing.{clear_reached_polled, clear_reached_halted}
use Rattle.port.proofs.When.{rule_for_every}
use Rattle.port.proofs.Replies.{replies_read, replies_read_ever}
use Rattle.port.proofs.Service.{status_told, status_told_ever}
use Rattle.c_bytes.specs.Layout.{is_unit, unit_in, unit_bytes}
use Rattle.c_promise.specs.Promise.{Lent, BytesResult, on_bytes, Returns}
use Rattle.c_promise.proofs.Called.{on_unit}
use Rattle.c_promise.specs.declared.types.TmcAnswer.{TmcAnswer}
use Rattle.unit.specs.Promise.{device_of, done_of}
use Rattle.unit.specs.declared.types.Unit.{Unit}
use Rattle.unit.specs.declared.types.Done.{Done}
use Rattle.claims.specs.Command.{Piece, command, Sendable, sending, Others}
use Rattle.claims.specs.Wire.{accepted_since}
use Rattle.claims.specs.Handed.{AllBrought, AllBroughtFrom, begun}
use Rattle.claims.specs.Acted.{Acting}
use Rattle.claims.specs.Arrival.{older, coming, NoBreaks, Arrives, Waiting, stage_of}
use Rattle.claims.specs.Fresh.{CLEAR_FEATURE_OUT, GET_STATUS_OUT, fresh_unit}
use Rattle.claims.specs.Replies.{polled_in, offered_in, read_after, to_come, NoDrops, Dropped, Ready, AllCome, Arriving}
use Rattle.claims.specs.Service.{sets, polls, reads, Undisturbed, last_set, NoneWaits, held_behind, Brings, NoneMadeUpFrom}
use Rattle.claims.proofs.Acted.{acts_only_on, acts_only_on_ever}
use Rattle.claims.proofs.Again.{command_after_clear}
use Rattle.claims.proofs.Arrives.{whole_command}
use Rattle.claims.proofs.Arriving.{reply_arrives, whole_reply}
use Rattle.claims.proofs.Cleared.{clean_after_fault}
use Rattle.claims.proofs.Ever.{whole_command_ever}
use Rattle.claims.proofs.Handed.{no_half_command, no_half_command_ever}
use Rattle.claims.proofs.Replies.{read_back}
use Rattle.claims.proofs.Service.{no_request_lost, status_comes, none_made_up}
use Rattle.claims_caller.specs.Runs.{answers_of}
use Rattle.claims_caller.specs.Seen.{OneByUnit, SeenByC, SeenByUnit}
use Rattle.claims_caller.proofs.Seen.{in_octets, c_stored, c_from, c_bytes, c_trace, c_octets, c_holds}
use Rattle.claims_caller.proofs.Seen.{unit_trace_from, unit_trace, unit_octets, unit_holds}

-- ** what is seen of a run, from a unit of the definitions

-- the answers of a trace are those of the run
run_answers : (d : Device) (calls : List Call) → answers_of (trace step d calls) ≡ run step d calls
unfolding trace run
run_answers d [] = refl
run_answers d (c ∷ calls) = ap (λ (l : List Answer). (step d c).answer ∷ l) (run_answers (step d c).unit calls)

module _ (d : Device) (stored : Stored d) (sound : is_sound d ≡ true) (es : List Event) (octets : AllInOctets (calls_of es)) (is : es ≡ trace step d (calls_of es)) where
  by : (Holds : List Event → Type 0) → Holds (trace step d (calls_of es)) → Holds es
  by Holds h = subst Holds (sym is) h

  seen_brought : AllBroughtFrom (packet_size d.state) (begun d) es
  seen_brought = by (AllBroughtFrom (packet_size d.state) (begun d)) (no_half_command d (calls_of es) stored sound octets)

  seen_acting : Acting (out_of d.state).transfer.left es
  seen_acting = by (Acting (out_of d.state).transfer.left) (acts_only_on d (calls_of es) stored sound octets)

  seen_arrives : (pieces : List Piece) → Waiting d → Sendable pieces → Arrives (packet_size d.state) (command pieces) (stage_of d (sending (packet_size d.state) pieces)) es
  seen_arrives pieces waiting sendable = by (Arrives (packet_size d.state) (command pieces) (stage_of d (sending (packet_size d.state) pieces)))
      (whole_command d pieces (calls_of es) stored waiting sendable octets)

  seen_reading : Reading (packet_size d.state) (reader_of d) es
  seen_reading = by (Reading (packet_size d.state) (reader_of d)) (replies_read d (calls_of es) stored sound)

  seen_told : Watching (watch_of d) es
  seen_told = by (Watching (watch_of d)) (status_told d (calls_of es) sound)

  seen_arriving : Ready d → Arriving (packet_size d.state) unread es
  seen_arriving ready = by (Arriving (packet_size d.state) unread) (reply_arrives d (calls_of es) ready)

  seen_whole_reply : Ready d → AllCome (packet_size d.state) unread es → to_come (read_after (packet_size d.state) unread es) ≡ []
      → polled_in (packet_size d.state) unread es ≡ offered_in es
  seen_whole_reply ready =
      by (λ l. AllCome (packet_size d.state) unread l → to_come (read_after (packet_size d.state) unread l) ≡ [] → polled_in (packet_size d.state) unread l ≡ offered_in l)
      (whole_reply d (calls_of es) ready)

  -- INITIATE_CLEAR, a poll, CHECK_CLEAR_STATUS: SUCCESS
  seen_clear_polled : (control room : ℕ) → Ready-to-clear d control room → (initiate poll check : Event) → es ≡ initiate ∷ poll ∷ check ∷ []
      → initiate.call ≡ setup_of INITIATE_CLEAR control → poll.call ≡ quiet (in_poll room) → check.call ≡ setup_of CHECK_CLEAR_STATUS control → check.answer ≡ success
  unfolding trace
  seen_clear_polled control room ready initiate poll check e a b c =
      let t : initiate ∷ poll ∷ check ∷ [] ≡ trace step d (initiate.call ∷ poll.call ∷ check.call ∷ []) = sym e ∙ is ∙ ap (λ (l : List Event). trace step d (calls_of l)) e in
      ap (λ (x : Event). x.answer) (head-eq_of_cons-eq (tail-eq_of_cons-eq (tail-eq_of_cons-eq t)))
      ∙ (λ i. (step (step (step d (a i)).unit (b i)).unit (c i)).answer)
      ∙ clear_reached_polled d control room ready

  -- INITIATE_CLEAR, CLEAR_FEATURE on 0x82, CHECK_CLEAR_STATUS: SUCCESS
  seen_clear_reached : (control : ℕ) → Attends d control → (initiate feature check : Event) → es ≡ initiate ∷ feature ∷ check ∷ []
      → initiate.call ≡ setup_of INITIATE_CLEAR control → feature.call ≡ setup_of CLEAR_FEATURE_IN control → check.call ≡ setup_of CHECK_CLEAR_STATUS control → check.answer ≡ success
  unfolding trace
  seen_clear_reached control attends initiate feature check e a b c =
      let t : initiate ∷ feature ∷ check ∷ [] ≡ trace step d (initiate.call ∷ feature.call ∷ check.call ∷ []) = sym e ∙ is ∙ ap (λ (l : List Event). trace step d (calls_of l)) e in
      ap (λ (x : Event). x.answer) (head-eq_of_cons-eq (tail-eq_of_cons-eq (tail-eq_of_cons-eq t)))
      ∙ (λ i. (step (step (step d (a i)).unit (b i)).unit (c i)).answer)
      ∙ (clear_reached_halted d control attends).0

  -- CHECK_CLEAR_STATUS with SUCCESS, and what was seen behind it: the answers of the fresh unit
  seen_clean : (check : Event) (later : List Event) (control : ℕ) → es ≡ check ∷ later → check.call ≡ setup_of CHECK_CLEAR_STATUS control → Succeeds check.answer
      → answers_of later ≡ run step (fresh_unit (packet_size d.state) (survivors d.state)) (calls_of later)
  unfolding trace
  seen_clean check later control e call s =
      let t : check ∷ later ≡ trace step d (check.call ∷ calls_of later) = sym e ∙ is ∙ ap (λ (l : List Event). trace step d (calls_of l)) e in
      let answer : check.answer ≡ (step d check.call).answer = ap (λ (x : Event). x.answer) (head-eq_of_cons-eq t) in
      let success = subst (λ (c : Call). Succeeds (step d c).answer) call (subst Succeeds answer s) in
      ap answers_of (tail-eq_of_cons-eq t)
      ∙ run_answers (step d check.call).unit (calls_of later)
      ∙ ap (λ (c : Call). run step (step d c).unit (calls_of later)) call
      ∙ (clean_after_fault d control (calls_of later) stored sound success).0

-- a run in two parts
split_trace : (before later : List Event) (d : Device) → before ++ later ≡ trace step d (calls_of (before ++ later))
    → (before ≡ trace step d (calls_of before)) × (later ≡ trace step (after step d (calls_of before)) (calls_of later))
unfolding trace after
split_trace [] later d e = (refl, e)
split_trace (x ∷ before) later d e =
    let r = split_trace before later (step d x.call).unit (tail-eq_of_cons-eq e) in
    (λ i. record { call = x.call; answer = ap (λ (y : Event). y.answer) (head-eq_of_cons-eq e) i } ∷ r.0 i, r.1)

octets_parts : (a b : List Event) → AllInOctets (calls_of (a ++ b)) → AllInOctets (calls_of a) × AllInOctets (calls_of b)
octets_parts [] b o = (tt, o)
octets_parts (x ∷ a) b o = let r = octets_parts a b o.1 in ((o.0, r.0), r.1)

-- from power-on: GET_STATUS on 0x01 says that Bulk-OUT runs, no packet of a command was accepted since the message or break before; and what was seen from there on
module _ (setting : Setting) (before later : List Event) (status : Event) (control : ℕ) where
  abbrev all : List Event
  all = before ++ (status ∷ later)

  seen_arrives_ever : AllInOctets (calls_of all) → all ≡ trace step (power_on setting).unit (calls_of all)
      → status.call ≡ setup_of GET_STATUS_OUT control → status.answer ≡ record { verdict = done; bytes = 0 ∷ 0 ∷ [] } → Others (accepted_since [] before)
      → (pieces : List Piece) → Sendable pieces
      → let P = packet_size (after step (power_on setting).unit (calls_of before)).state in
      Arrives P (command pieces) (older (sending P pieces)) (status ∷ later) ⊎ Arrives P (command pieces) (coming (sending P pieces)) (status ∷ later)
  unfolding trace
  seen_arrives_ever o e call answer others pieces sendable =
      let d = (power_on setting).unit in
      let t = split_trace before (status ∷ later) d e in
      let u = after step d (calls_of before) in
      let P = packet_size u.state in
      let p = octets_parts before (status ∷ later) o in
      let says : (step u (setup_of GET_STATUS_OUT control)).answer ≡ record { verdict = done; bytes = 0 ∷ 0 ∷ [] }
      = sym (ap (λ (x : Event). x.answer) (head-eq_of_cons-eq t.1) ∙ ap (λ (c : Call). (step u c).answer) call) ∙ answer in
      ⊎_elim (λ k. inl (subst (Arrives P (command pieces) (older (sending P pieces))) (sym t.1) k)) (λ k. inr (subst (Arrives P (command pieces) (coming (sending P pieces))) (sym t.1) k))
      (whole_command_ever setting (calls_of before) control pieces (calls_of (status ∷ later)) p.0 says (subst (λ (l : List Event). Others (accepted_since [] l)) t.0 others) sendable p.1)

-- CHECK_CLEAR_STATUS with SUCCESS, no break, CLEAR_FEATURE on 0x01 answered 0, and what was seen from there on
module _ (d : Device) (stored : Stored d) (sound : is_sound d ≡ true) (check feature : Event) (between later : List Event) (control room : ℕ) where
  abbrev run_of : List Event
  run_of = check ∷ (between ++ (feature ∷ later))

  seen_after_clear : AllInOctets (calls_of run_of) → run_of ≡ trace step d (calls_of run_of) → check.call ≡ setup_of CHECK_CLEAR_STATUS control → Succeeds check.answer
      → NoBreaks between → feature.call ≡ setup_of CLEAR_FEATURE_OUT room → feature.answer.verdict.number ≡ 0 → (pieces : List Piece) → Sendable pieces
      → let P = packet_size d.state in Arrives P (command pieces) (coming (sending P pieces)) later
  unfolding trace after
  seen_after_clear o e call s unbroken call' n pieces sendable =
      let answer : check.answer ≡ (step d (setup_of CHECK_CLEAR_STATUS control)).answer = ap (λ (x : Event). x.answer) (head-eq_of_cons-eq e) ∙ ap (λ (c : Call). (step d c).answer) call in
      let v = (step d (setup_of CHECK_CLEAR_STATUS control)).unit in
      let t = split_trace between (feature ∷ later) v (tail-eq_of_cons-eq e ∙ ap (λ (c : Call). trace step (step d c).unit (calls_of (between ++ (feature ∷ later)))) call) in
      let p = octets_parts between (feature ∷ later) o.1 in
      let w = after step v (calls_of between) in
      let P = packet_size d.state in
      let done : (step w (setup_of CLEAR_FEATURE_OUT room)).answer.verdict.number ≡ 0
      = sym (ap (λ (x : Event). x.answer.verdict.number) (head-eq_of_cons-eq t.1) ∙ ap (λ (c : Call). (step w c).answer.verdict.number) call') ∙ n in
      subst (Arrives P (command pieces) (coming (sending P pieces))) (sym (tail-eq_of_cons-eq t.1 ∙ ap (λ (c : Call). trace step (step w c).unit (calls_of later)) call'))
      (command_after_clear d control room (calls_of between) pieces (calls_of later) stored sound (subst Succeeds answer s) (subst NoBreaks t.0 unbroken) p.0 done sendable p.1.1)

-- ** from C

module _ (u : List ℕ) (lent : Lent u) (is : is_unit u ≡ true) (sound : is_sound (unit_in u) ≡ true) (es : List Event) (u' : List ℕ) (h : SeenByC u es u') where
  abbrev d : Device
  d = unit_in u

  abbrev P : ℕ
  P = packet_size d.state

  abbrev stored : Stored d
  stored = c_stored u lent is sound es u' h

  abbrev octets : AllInOctets (calls_of es)
  octets = c_bytes u lent is sound es u' h

  abbrev traced : es ≡ trace step d (calls_of es)
  traced = (c_from u lent is sound es u' h).0

  pub c_no_half_command : AllBroughtFrom P (begun d) es
  c_no_half_command = seen_brought d stored sound es octets traced

  pub c_acts_only_on : Acting (out_of d.state).transfer.left es
  c_acts_only_on = seen_acting d stored sound es octets traced

  pub c_whole_command : (pieces : List Piece) → Waiting d → Sendable pieces → Arrives P (command pieces) (stage_of d (sending P pieces)) es
  c_whole_command = seen_arrives d stored sound es octets traced

  pub c_replies_read : Reading P (reader_of d) es
  c_replies_read = seen_reading d stored sound es octets traced

  pub c_status_told : Watching (watch_of d) es
  c_status_told = seen_told d stored sound es octets traced

  pub c_reply_arrives : Ready d → Arriving P unread es
  c_reply_arrives = seen_arriving d stored sound es octets traced

  pub c_whole_reply : Ready d → AllCome P unread es → to_come (read_after P unread es) ≡ [] → polled_in P unread es ≡ offered_in es
  c_whole_reply = seen_whole_reply d stored sound es octets traced

  pub c_clear_reached_polled : (control room : ℕ) → Ready-to-clear d control room → (initiate poll check : Event) → es ≡ initiate ∷ poll ∷ check ∷ []
      → initiate.call ≡ setup_of INITIATE_CLEAR control → poll.call ≡ quiet (in_poll room) → check.call ≡ setup_of CHECK_CLEAR_STATUS control → check.answer ≡ success
  c_clear_reached_polled = seen_clear_polled d stored sound es octets traced

  pub c_clear_reached_halted : (control : ℕ) → Attends d control → (initiate feature check : Event) → es ≡ initiate ∷ feature ∷ check ∷ []
      → initiate.call ≡ setup_of INITIATE_CLEAR control → feature.call ≡ setup_of CLEAR_FEATURE_IN control → check.call ≡ setup_of CHECK_CLEAR_STATUS control → check.answer ≡ success
  c_clear_reached_halted = seen_clear_reached d stored sound es octets traced

  pub c_clean_after_fault : (check : Event) (later : List Event) (control : ℕ) → es ≡ check ∷ later → check.call ≡ setup_of CHECK_CLEAR_STATUS control → Succeeds check.answer
      → answers_of later ≡ run step (fresh_unit P (survivors d.state)) (calls_of later)
  c_clean_after_fault = seen_clean d stored sound es octets traced

module _ (u : List ℕ) (lent : Lent u) (is : is_unit u ≡ true) (sound : is_sound (unit_in u) ≡ true) (check feature : Event) (between later : List Event) (control room : ℕ) (u' : List ℕ)
    (h : SeenByC u (check ∷ (between ++ (feature ∷ later))) u') where
  pub c_command_after_clear : check.call ≡ setup_of CHECK_CLEAR_STATUS control → Succeeds check.answer → NoBreaks between
      → feature.call ≡ setup_of CLEAR_FEATURE_OUT room → feature.answer.verdict.number ≡ 0 → (pieces : List Piece) → Sendable pieces
      → let P = packet_size (unit_in u).state in Arrives P (command pieces) (coming (sending P pieces)) later
  c_command_after_clear = seen_after_clear (unit_in u) (c_stored u lent is sound _ u' h) sound check feature between later control room (c_bytes u lent is sound _ u' h)
      (c_from u lent is sound _ u' h).0

-- one call on any bytes that are a unit's: its number is the first whose condition holds
module _ (u : List ℕ) (is : is_unit u ≡ true) (c : Call) (u' : List ℕ) (r : TmcAnswer) where
  pub c_rule_for_every : Returns (on_bytes u c) u' r → given (unit_in u) c r.verdict.number
  c_rule_for_every k =
      subst (λ (n : ℕ). given (unit_in u) c n) (sym (ap (λ (a : TmcAnswer). a.verdict.number) k.answer ∙ ap (λ (q : BytesResult). q.answer.verdict.number) (on_unit u c is)))
      (rule_for_every (unit_in u) c)

module _ (setting : Setting) where
  abbrev size : ℕ
  size = packet_size (power_on setting).unit.state

  pub c_no_half_command_ever : (es : List Event) (u' : List ℕ) → SeenByC (unit_bytes (power_on setting).unit) es u' → AllBrought size es
  c_no_half_command_ever = c_holds setting (AllBrought size) (no_half_command_ever setting)

  pub c_acts_only_on_ever : (es : List Event) (u' : List ℕ) → SeenByC (unit_bytes (power_on setting).unit) es u' → Acting 0 es
  c_acts_only_on_ever = c_holds setting (Acting 0) (acts_only_on_ever setting)

  pub c_replies_read_ever : (es : List Event) (u' : List ℕ) → SeenByC (unit_bytes (power_on setting).unit) es u' → Reading size unread es
  c_replies_read_ever = c_holds setting (Reading size unread) (λ calls _. replies_read_ever setting calls)

  pub c_whole_command_ever : (before later : List Event) (status : Event) (control : ℕ) (u' : List ℕ) → SeenByC (unit_bytes (power_on setting).unit) (before ++ (status ∷ later)) u'
      → status.call ≡ setup_of GET_STATUS_OUT control → status.answer ≡ record { verdict = done; bytes = 0 ∷ 0 ∷ [] } → Others (accepted_since [] before)
      → (pieces : List Piece) → Sendable pieces
      → let P = packet_size (after step (power_on setting).unit (calls_of before)).state in
      Arrives P (command pieces) (older (sending P pieces)) (status ∷ later) ⊎ Arrives P (command pieces) (coming (sending P pieces)) (status ∷ later)
  c_whole_command_ever before later status control u' h = seen_arrives_ever setting before later status control (c_octets setting _ u' h) (c_trace setting _ u' h)

  pub c_read_back : (before stretch later : List Event) (u' : List ℕ) → SeenByC (unit_bytes (power_on setting).unit) (before ++ (stretch ++ later)) u'
      → let r = read_after size unread before in
      Dropped size unread before → NoDrops size r stretch → offered_in stretch ≡ polled_in size r stretch ++ to_come (read_after size r stretch)
  c_read_back before stretch later u' h = read_back setting (calls_of (before ++ (stretch ++ later))) before stretch later (sym (c_trace setting _ u' h))

  pub c_status_told_ever : (es : List Event) (u' : List ℕ) → SeenByC (unit_bytes (power_on setting).unit) es u' → Watching unwatched es
  c_status_told_ever = c_holds setting (Watching unwatched) (λ calls _. status_told_ever setting calls)

  pub c_none_made_up : (es : List Event) (u' : List ℕ) → SeenByC (unit_bytes (power_on setting).unit) es u' → NoneMadeUpFrom unwatched [] es
  c_none_made_up = c_holds setting (NoneMadeUpFrom unwatched []) (λ calls _. none_made_up setting calls)

  pub c_request_at_once : (before between later : List Event) (status room : ℕ) (a b : Answer) (u' : List ℕ)
      → SeenByC (unit_bytes (power_on setting).unit) (before ++ (sets status a ∷ (between ++ (polls room b ∷ later)))) u'
      → a.verdict.number ≡ 0 → bit6 status ≡ true → NoneWaits before → Undisturbed between → Brings (0x81 ∷ status ∷ []) b
  c_request_at_once before between later status room a b u' h = no_request_lost.at_once setting _ before between later status room a b (sym (c_trace setting _ u' h))

  pub c_request_kept : (before between more later : List Event) (status room first : ℕ) (a b c : Answer) (u' : List ℕ)
      → SeenByC (unit_bytes (power_on setting).unit) (before ++ (sets status a ∷ (between ++ (polls first b ∷ (more ++ (polls room c ∷ later)))))) u'
      → a.verdict.number ≡ 0 → bit6 status ≡ true → Not (NoneWaits before) → Undisturbed between → b.verdict.number ≡ 0 → Undisturbed more
      → bit6 (last_set status between) ≡ true → Brings (0x81 ∷ last_set status between ∷ []) c
  c_request_kept before between more later status room first a b c u' h = no_request_lost.kept setting _ before between more later status room first a b c (sym (c_trace setting _ u' h))

  pub c_status_comes : (before between later : List Event) (tag control room : ℕ) (a b : Answer) (u' : List ℕ)
      → SeenByC (unit_bytes (power_on setting).unit) (before ++ (reads tag control a ∷ (between ++ (polls room b ∷ later)))) u'
      → Succeeds a → Undisturbed between → Brings ((0x80 + tag) ∷ held_behind before ∷ []) b
  c_status_comes before between later tag control room a b u' h = status_comes setting _ before between later tag control room a b (sym (c_trace setting _ u' h))

-- ** by value and in place

module _ (u : Unit) (stored : Stored (device_of u)) (sound : is_sound (device_of u) ≡ true) (es : List Event) (u' : Unit) (h : SeenByUnit u es u') where
  abbrev e : Device
  e = device_of u

  abbrev bytes : AllInOctets (calls_of es)
  bytes = in_octets OneByUnit h

  abbrev is_traced : es ≡ trace step e (calls_of es)
  is_traced = (unit_trace_from e u refl es u' h).0

  pub unit_no_half_command : AllBroughtFrom (packet_size e.state) (begun e) es
  unit_no_half_command = seen_brought e stored sound es bytes is_traced

  pub unit_acts_only_on : Acting (out_of e.state).transfer.left es
  unit_acts_only_on = seen_acting e stored sound es bytes is_traced

  pub unit_whole_command : (pieces : List Piece) → Waiting e → Sendable pieces → Arrives (packet_size e.state) (command pieces) (stage_of e (sending (packet_size e.state) pieces)) es
  unit_whole_command = seen_arrives e stored sound es bytes is_traced

  pub unit_replies_read : Reading (packet_size e.state) (reader_of e) es
  unit_replies_read = seen_reading e stored sound es bytes is_traced

  pub unit_status_told : Watching (watch_of e) es
  unit_status_told = seen_told e stored sound es bytes is_traced

  pub unit_reply_arrives : Ready e → Arriving (packet_size e.state) unread es
  unit_reply_arrives = seen_arriving e stored sound es bytes is_traced

  pub unit_whole_reply : Ready e → AllCome (packet_size e.state) unread es → to_come (read_after (packet_size e.state) unread es) ≡ [] → polled_in (packet_size e.state) unread es ≡ offered_in es
  unit_whole_reply = seen_whole_reply e stored sound es bytes is_traced

  pub unit_clear_reached_polled : (control room : ℕ) → Ready-to-clear e control room → (initiate poll check : Event) → es ≡ initiate ∷ poll ∷ check ∷ []
      → initiate.call ≡ setup_of INITIATE_CLEAR control → poll.call ≡ quiet (in_poll room) → check.call ≡ setup_of CHECK_CLEAR_STATUS control → check.answer ≡ success
  unit_clear_reached_polled = seen_clear_polled e stored sound es bytes is_traced

  pub unit_clear_reached_halted : (control : ℕ) → Attends e control → (initiate feature check : Event) → es ≡ initiate ∷ feature ∷ check ∷ []
      → initiate.call ≡ setup_of INITIATE_CLEAR control → feature.call ≡ setup_of CLEAR_FEATURE_IN control → check.call ≡ setup_of CHECK_CLEAR_STATUS control → check.answer ≡ success
  unit_clear_reached_halted = seen_clear_reached e stored sound es bytes is_traced

  pub unit_clean_after_fault : (check : Event) (later : List Event) (control : ℕ) → es ≡ check ∷ later → check.call ≡ setup_of CHECK_CLEAR_STATUS control → Succeeds check.answer
      → answers_of later ≡ run step (fresh_unit (packet_size e.state) (survivors e.state)) (calls_of later)
  unit_clean_after_fault = seen_clean e stored sound es bytes is_traced

module _ (u : Unit) (stored : Stored (device_of u)) (sound : is_sound (device_of u) ≡ true) (check feature : Event) (between later : List Event) (control room : ℕ) (u' : Unit)
    (h : SeenByUnit u (check ∷ (between ++ (feature ∷ later))) u') where
  pub unit_command_after_clear : check.call ≡ setup_of CHECK_CLEAR_STATUS control → Succeeds check.answer → NoBreaks between
      → feature.call ≡ setup_of CLEAR_FEATURE_OUT room → feature.answer.verdict.number ≡ 0 → (pieces : List Piece) → Sendable pieces
      → let P = packet_size (device_of u).state in Arrives P (command pieces) (coming (sending P pieces)) later
  unit_command_after_clear = seen_after_clear (device_of u) stored sound check feature between later control room (in_octets OneByUnit h) (unit_trace_from (device_of u) u refl _ u' h).0

module _ (setting : Setting) (r : Done) (meets : r ≡ done_of (power_on setting)) where
  pub unit_whole_command_ever : (before later : List Event) (status : Event) (control : ℕ) (u' : Unit) → SeenByUnit r.unit (before ++ (status ∷ later)) u'
      → status.call ≡ setup_of GET_STATUS_OUT control → status.answer ≡ record { verdict = done; bytes = 0 ∷ 0 ∷ [] } → Others (accepted_since [] before)
      → (pieces : List Piece) → Sendable pieces
      → let P = packet_size (after step (power_on setting).unit (calls_of before)).state in
      Arrives P (command pieces) (older (sending P pieces)) (status ∷ later) ⊎ Arrives P (command pieces) (coming (sending P pieces)) (status ∷ later)
  unit_whole_command_ever before later status control u' h = seen_arrives_ever setting before later status control (unit_octets setting r meets _ u' h) (unit_trace setting r meets _ u' h)

  pub unit_no_half_command_ever : (es : List Event) (u' : Unit) → SeenByUnit r.unit es u' → AllBrought (size setting) es
  unit_no_half_command_ever = unit_holds setting r meets (AllBrought (size setting)) (no_half_command_ever setting)

  pub unit_acts_only_on_ever : (es : List Event) (u' : Unit) → SeenByUnit r.unit es u' → Acting 0 es
  unit_acts_only_on_ever = unit_holds setting r meets (Acting 0) (acts_only_on_ever setting)

  pub unit_replies_read_ever : (es : List Event) (u' : Unit) → SeenByUnit r.unit es u' → Reading (size setting) unread es
  unit_replies_read_ever = unit_holds setting r meets (Reading (size setting) unread) (λ calls _. replies_read_ever setting calls)

  pub unit_read_back : (before stretch later : List Event) (u' : Unit) → SeenByUnit r.unit (before ++ (stretch ++ later)) u'
      → let x = read_after (size setting) unread before in
      Dropped (size setting) unread before → NoDrops (size setting) x stretch → offered_in stretch ≡ polled_in (size setting) x stretch ++ to_come (read_after (size setting) x stretch)
  unit_read_back before stretch later u' h = read_back setting (calls_of (before ++ (stretch ++ later))) before stretch later (sym (unit_trace setting r meets _ u' h))

  pub unit_status_told_ever : (es : List Event) (u' : Unit) → SeenByUnit r.unit es u' → Watching unwatched es
  unit_status_told_ever = unit_holds setting r meets (Watching unwatched) (λ calls _. status_told_ever setting calls)

  pub unit_none_made_up : (es : List Event) (u' : Unit) → SeenByUnit r.unit es u' → NoneMadeUpFrom unwatched [] es
  unit_none_made_up = unit_holds setting r meets (NoneMadeUpFrom unwatched []) (λ calls _. none_made_up setting calls)

  pub unit_request_at_once : (before between later : List Event) (status room : ℕ) (a b : Answer) (u' : Unit)
      → SeenByUnit r.unit (before ++ (sets status a ∷ (between ++ (polls room b ∷ later)))) u'
      → a.verdict.number ≡ 0 → bit6 status ≡ true → NoneWaits before → Undisturbed between → Brings (0x81 ∷ status ∷ []) b
  unit_request_at_once before between later status room a b u' h = no_request_lost.at_once setting _ before between later status room a b (sym (unit_trace setting r meets _ u' h))

  pub unit_request_kept : (before between more later : List Event) (status room first : ℕ) (a b c : Answer) (u' : Unit)
      → SeenByUnit r.unit (before ++ (sets status a ∷ (between ++ (polls first b ∷ (more ++ (polls room c ∷ later)))))) u'
      → a.verdict.number ≡ 0 → bit6 status ≡ true → Not (NoneWaits before) → Undisturbed between → b.verdict.number ≡ 0 → Undisturbed more
      → bit6 (last_set status between) ≡ true → Brings (0x81 ∷ last_set status between ∷ []) c
  unit_request_kept before between more later status room first a b c u' h = no_request_lost.kept setting _ before between more later status room first a b c (sym (unit_trace setting r meets _ u' h))

  pub unit_status_comes : (before between later : List Event) (tag control room : ℕ) (a b : Answer) (u' : Unit)
      → SeenByUnit r.unit (before ++ (reads tag control a ∷ (between ++ (polls room b ∷ later)))) u'
      → Succeeds a → Undisturbed between → Brings ((0x80 + tag) ∷ held_behind before ∷ []) b
  unit_status_comes before between later tag control room a b u' h = status_comes setting _ before between later tag control room a b (sym (unit_trace setting r meets _ u' h))
