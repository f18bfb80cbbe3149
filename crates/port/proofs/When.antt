-- THE LAW of numbers, proved of our step, and power-on's: each test of a list of rules tells of its condition. That a unit is sound is what the tests
-- lean on: its flags are 0 or 1, and its message fits the store.
-- Assumes nothing.
use Prim.Native.Nat.{ℕ, ◌+◌, ◌<◌, ◌%◌}
use mathlib.Core.Path.{◌≡◌, refl, sym, ap, ◌∙◌, subst}
use mathlib.Core.Bool.{Bool, true, true≢false, false≢true}
use mathlib.Core.List.{List, []}
use mathlib.Core.Logic.{◌⊎◌, inl, inr, ⊎_elim}
use native.Mathlib.Omega.{arith}
use lib.ListN.{length}
use borrow.Author.Tests.{eqb-true, eqb-false}
use Rattle.std.specs.Prelude.{Option, Some, None}
use Rattle.rules.specs.declared.refusal.Refusal.TheVariants as Refusal
use Rattle.rules.specs.Choice.{◌=ᵇ◌, ◌<ᵇ◌, no, pick, ◌⇒◌∣◌, decide}
use Rattle.rules.specs.Answers.{DONE}
use Rattle.rules.specs.When.{Not, ◌when◌∣◌, else_0}
use Rattle.rules.proofs.Choice.{pick_all, no_true, no_false, neb_ne, neb_eq}
use Rattle.rules.proofs.When.{Tells, in_words, equals, differs, is_less, negated, one_of, decided, both_of, By, through, line}
use Rattle.wire.specs.Header.{HEADER, read_header}
use Rattle.wire.specs.Setup.{read_setup}
use Rattle.wire.specs.When.{Commands, Requests, Triggers, rows, Matches, Means}
use Rattle.wire.specs.declared.types.Header.{Header}
use Rattle.wire.specs.declared.types.Header.TheVariants.{Message, Request, Trigger}
use Rattle.std.specs.Prelude.{Ok}
use Rattle.wire.specs.declared.types.Setup.{Setup}
use Rattle.wire.specs.declared.types.Setup.TheVariants.{Configure, Asks}
use Rattle.wire.proofs.When.{header_when, Right, matched, unmatched, setup_read}
use Rattle.port.specs.Parts.{STORE, is_size, is_open_out, unfinished, has_reply, is_clear, port_of, out_of, in_of, packet_size, is_configured}
use Rattle.port.specs.Out.{halt_of, wrong_length, more, header_says, outcome, planned, accepted, out_plan}
use Rattle.port.specs.In.{poll}
use Rattle.port.specs.Interrupt.{poll_interrupt}
use Rattle.port.specs.Device.{Device, Result, is_sound, power_on}
use Rattle.port.specs.Calls.{said, with_message, bulk_out, bulk_in, interrupt_in, asked, setup_outcome, answered, setup}
use Rattle.port.specs.Calls.{taking, take_message, offer_plan, with_reply, offer, status_set, set_status_byte, returned, panel, reset_by_bus, suspend}
use Rattle.port.specs.Step.{in_poll, interrupt_poll, offer_reply, set_status, front_panel, bus_suspend, Call}
use Rattle.port.specs.Step.{setup_packet, out_packet, take_into, bus_reset, quiet, quietly, soundly, step}
use Rattle.port.specs.When.{Unsound, Unconfigured, MessageUnfinished, OutOpen, ReplyStored, OutOfTurn}
use Rattle.port.specs.When.{TooLong, HeaderWrongLength, of_more, of_header, of_packet}
use Rattle.port.specs.When.{Configures, Served, given, given_power, RuleForEvery, PowerRule}
use Rattle.port.specs.declared.types.Split.{Split}
use Rattle.port.specs.declared.types.Split.TheVariants.{None, AbortOut, AbortIn, Clear}
use Rattle.port.specs.declared.types.Outcome.{Outcome}
use Rattle.port.specs.declared.types.Outcome.TheVariants.{Keep}
use Rattle.port.specs.Answer.{SetupOutcome}
use Rattle.port.proofs.Soundness.{Sound, sound_of}
use Rattle.port.proofs.KeepsOut.{out_held, out_ready}
use Rattle.port.proofs.Sizes.{size_of}
use Rattle.port.proofs.Calls.{row_done}

abbrev number : Result → ℕ
number r = r.answer.verdict.number

-- 1 comes first
asked_first : (u : Device) (c : Call) {below : Result → ℕ → Type 0} → (Sound u.state → By number below (soundly u c)) → By number (λ r. 1 when Unsound u ∣ below r) (step u c)
unfolding step
asked_first u c {below} k = record {
  told = pick_all (λ r. (1 when Unsound u ∣ below r) (number r)) (is_sound u) _ _ (λ e. inr (λ f. true≢false (sym e ∙ f), (k (sound_of _ e)).told)) (λ e. inl (refl, e));
}

-- ** a sound unit

module _ (u : Device) (h : Sound u.state) where
  unconfigured : Tells (no (is_configured u.state)) (Unconfigured u)
  unconfigured = let c = h.port.configured in in_words (λ n. omega arith) (λ e f. omega arith) (negated (equals (port_of u.state).configured 1))

  unfinished_message : Tells (unfinished (out_of u.state)) (MessageUnfinished u)
  unfinished_message =
      let r = out_ready u.state h in
      both_of (in_words (λ z o. omega arith) (λ n. omega arith) (equals (out_of u.state).message.ready 0)) (differs (out_of u.state).message.held 0)

pub is_clear_lem : (x : Split) → Tells (is_clear x) (x ≡ Clear)
is_clear_lem x = record { held = by x; failed = λ f e. true≢false (sym (ap is_clear e) ∙ f) }
  where
    by : (x : Split) → is_clear x ≡ true → x ≡ Clear
    by None e = absurd (false≢true e)
    by (AbortOut count) e = absurd (false≢true e)
    by (AbortIn count) e = absurd (false≢true e)
    by Clear e = refl

reply_stored : (u : Device) → Tells (has_reply (in_of u.state)) (ReplyStored u)
reply_stored u = one_of (differs (in_of u.state).reply.unsent 0) (equals (in_of u.state).transfer.phase 2)

-- ** a Bulk-OUT packet

wrong_length_lem : (p n : ℕ) {due due' : ℕ} → due ≡ due' → Tells (wrong_length p n due) ((due' < n) ⊎ ((n < due') × (n < p)))
wrong_length_lem p n {due} e = subst (λ (d : ℕ). Tells (wrong_length p n due) ((d < n) ⊎ ((n < d) × (n < p)))) e (one_of (is_less due n) (both_of (is_less n due) (is_less n p)))

-- the kinds of header are apart
apart : (s : List ℕ) → Commands s → Not (Requests s ⊎ Triggers s)
apart s c = ⊎_elim (λ r. omega arith) (λ t. omega arith)

module _ (u : Device) (s : List ℕ) (h : Sound u.state) where
  abbrev outcome_number : Outcome → ℕ
  outcome_number x = (planned u.state x).verdict.number

  -- behind 10
  abbrev behind : ℕ → Type 0
  behind =
      13 when OutOfTurn u s ∣
      12 when TooLong u s ∣
      11 when HeaderWrongLength u s ∣ else_0

  more_when : By outcome_number (λ _. of_more u s) (more (packet_size u.state) (out_of u.state).transfer.left s)
  unfolding more planned
  more_when =
      line _ (differs (length s % 4) 0) refl
      (λ _. line _ (wrong_length_lem _ (length s) (omega arith)) refl (λ _. record { told = refl }))

  command_when : (tag size end : ℕ) → Means s (Message tag size end) → By outcome_number (λ _. behind) (header_says u.state s (Ok (Message tag size end)))
  unfolding header_says planned accepted
  command_when tag size end m =
      let c = m.0 in
      let same = m.2 in
      line _ (record { held = λ e. absurd (false≢true e); failed = λ _. ⊎_elim (λ r. apart s c (inl r.0)) (λ r. apart s c r.0) }) refl
      (λ _. line _ (in_words (λ l. (c, omega arith)) (λ l. let k = l.1 in omega arith) (is_less STORE ((out_of u.state).message.held + size))) refl
      (λ _. line _ (in_words (λ w. inl (c, w)) (⊎_elim (λ r. r.1) (λ r. absurd (apart s c r.0))) (wrong_length_lem _ (length s) (omega arith))) refl
      (λ _. record { told = refl })))

  -- a REQUEST or a TRIGGER: a packet of exactly 12
  plain_when : {t : Bool} (x : Outcome) → outcome_number x ≡ 0 → Requests s ⊎ Triggers s → Tells t (OutOfTurn u s)
      → By outcome_number (λ _. behind)
      (decide halt_of (t ⇒ Refusal.OutOfTurn ∣ STORE <ᵇ (out_of u.state).message.held + 0 ⇒ Refusal.TooLong ∣ wrong_length (packet_size u.state) (length s) HEADER ⇒ Refusal.WrongLength ∣ []) x)
  unfolding planned
  plain_when x z k turn =
      let other : Not (Commands s) = λ c. apart s c k in
      let room = out_held u.state h in
      let long : HEADER < packet_size u.state = let k = (size_of (packet_size u.state) h.port.size).least in omega arith in
      line _ turn refl
      (λ _. line _ (in_words (λ l. absurd (omega arith)) (λ l. absurd (other l.0)) (is_less STORE ((out_of u.state).message.held + 0))) refl
      (λ _. line _
      (in_words (⊎_elim (λ l. inr (k, λ e. omega arith)) (λ l. inr (k, λ e. let m = l.0 in omega arith)))
      (⊎_elim (λ r. absurd (other r.0)) (λ r. let n = r.1 in ⊎_elim inl (λ l. inr (omega arith, omega arith)) (decided _ (is_less 12 (length s)))))
      (wrong_length_lem _ (length s) refl))
      refl
      (λ _. record { told = z })))

  good_when : (x : Header) → Means s x → By outcome_number (λ _. behind) (header_says u.state s (Ok x))
  unfolding header_says planned accepted
  good_when (Message tag size end) m = command_when tag size end m
  good_when (Request tag size enabled term) m =
      plain_when _ refl (inl m.0)
      (in_words (⊎_elim (λ o. inl (m.0, o)) (λ f. inr (inl m.0, f))) (⊎_elim (λ r. inl r.1) (λ r. inr r.1)) (one_of (differs (in_of u.state).transfer.phase 0) (unfinished_message u h)))
  good_when (Trigger tag) m =
      let t = m.0 in
      plain_when _ refl (inr t) (in_words (λ f. inr (inr t, f)) (⊎_elim (λ r. let e = r.0 in absurd (omega arith)) (λ r. r.1)) (unfinished_message u h))

  head_when : Not (length s ≡ 0) → By outcome_number (λ _. of_header u s) (header_says u.state s (read_header s))
  unfolding header_says planned
  head_when some = through (header_says u.state s) (header_when s _ _ (λ n. refl) (λ x m. record { told = (good_when x m).told }) some)

  packet_when : By outcome_number (λ _. of_packet u s)
      (pick (is_open_out (out_of u.state)) (more (packet_size u.state) (out_of u.state).transfer.left s) (pick (length s =ᵇ 0) (Keep DONE) (header_says u.state s (read_header s))))
  unfolding planned
  packet_when =
      pick_all (By outcome_number _) _ _ _ (λ e. record { told = inl (neb_ne _ _ e, more_when.told) })
      (λ e.
      let between : Not (OutOpen u) = λ n. n (neb_eq _ _ e) in
      pick_all (By outcome_number _) _ _ _ (λ f. record { told = inr (inl (between, eqb-true _ _ f, refl)) })
      (λ f. let some = eqb-false _ _ f in record { told = inr (inr (between, some, (head_when some).told)) }))

-- ** a setup packet

module _ (u : Device) (s : List ℕ) (h : Sound u.state) where
  abbrev setup_number : SetupOutcome → ℕ
  setup_number x = number (answered u x)

  abbrev unserved : ℕ → Type 0
  unserved = 15 when Not (Served u s) ∣ else_0

  -- a row is served, but for its unit's being unconfigured
  row_when : (x : Setup) → Matches s rows x → ((y : Setup) → Matches s rows y → y ≡ x) → By setup_number (λ _. unserved) (asked u.state (Some x))
  unfolding asked answered
  row_when (Configure value) m k = record { told = inr (λ n. n (record { asks = Configure value; matches = m; now = inr tt }), refl) }
  row_when (Asks row) m k =
      pick_all (By setup_number _) _ _ _
      (λ e. record { told = inr (λ n. n (record { asks = Asks row; matches = m; now = inl ((unconfigured u h).failed (no_false _ e)) }), row_done u.state row) })
      (λ e. record { told = inl (refl, λ served. ⊎_elim (λ n. n ((unconfigured u h).held (no_true _ e))) (λ c. subst Configures (k _ served.matches) c) served.now) })

  abbrev AskedWhen : Option Setup → Type 0
  AskedWhen x = By setup_number (λ _. unserved) (asked u.state x)

  asked_when : (x : Option Setup) → Right s rows x → AskedWhen x
  unfolding asked answered
  asked_when x (matched e m k) = subst AskedWhen (sym e) (row_when _ m k)
  asked_when x (unmatched e k) = subst AskedWhen (sym e) (record { told = inl (refl, λ served. k _ served.matches) })

by_rules : (u : Device) (c : Call) → By number (λ _. given u c) (step u c)
unfolding soundly quietly setup setup_outcome answered bulk_out out_plan outcome planned take_message taking bulk_in poll interrupt_in poll_interrupt offer offer_plan set_status_byte status_set
    panel returned reset_by_bus suspend
by_rules u (setup_packet p) =
    asked_first u (setup_packet p)
    (λ h. through (answered u)
    (line _ (one_of (differs (length p.packet) 8) (is_less p.room 24)) refl (λ _. asked_when u p.packet h (read_setup p.packet) (setup_read p.packet))))
by_rules u (out_packet s) =
    asked_first u (out_packet s)
    (λ h. through (λ x. with_message u s (planned u.state x))
    (line _ (unconfigured u h) refl
    (λ _. line _ (is_less (packet_size u.state) (length s)) refl
    (λ _. line _ (equals _ 1) refl
    (λ _. line _ (equals _ 1) refl (λ _. packet_when u s h))))))
by_rules u (take_into room) =
    asked_first u (take_into room)
    (λ h. through (said u)
    (line _ (unconfigured u h) refl
    (λ _. line _ (negated (equals _ 1)) refl
    (λ _. line _ (is_less room _) refl (λ _. record { told = refl })))))
by_rules u bus_reset = asked_first u bus_reset (λ _. record { told = refl })
by_rules u (quiet (in_poll room)) =
    asked_first u (quiet (in_poll room))
    (λ h. through (said u)
    (line _ (unconfigured u h) refl
    (λ _. line _ (is_less room _) refl
    (λ _. line _ (equals _ 1) refl
    (λ _. line _ (both_of (negated (equals _ 3)) (one_of (negated (differs _ 0)) (negated (reply_stored u)))) refl (λ _. record { told = refl }))))))
by_rules u (quiet (interrupt_poll room)) =
    asked_first u (quiet (interrupt_poll room))
    (λ h. through (said u)
    (line _ (unconfigured u h) refl
    (λ _. line _ (is_less room 2) refl
    (λ _. line _ (equals _ 1) refl
    (λ _. line _ (negated (differs _ 0)) refl (λ _. record { told = refl }))))))
by_rules u (quiet (offer_reply bytes)) =
    asked_first u (quiet (offer_reply bytes))
    (λ h. through (with_reply u bytes)
    (line _ (unconfigured u h) refl
    (λ _. line _ (one_of (equals (length bytes) 0) (is_less STORE (length bytes))) refl
    (λ _. line _ (one_of (reply_stored u) (is_clear_lem u.state.split)) refl (λ _. record { told = refl })))))
by_rules u (quiet (set_status status)) = asked_first u (quiet (set_status status)) (λ h. through (said u) (line _ (unconfigured u h) refl (λ _. record { told = refl })))
by_rules u (quiet front_panel) = asked_first u (quiet front_panel) (λ h. through (said u) (line _ (unconfigured u h) refl (λ _. record { told = refl })))
by_rules u (quiet bus_suspend) = asked_first u (quiet bus_suspend) (λ _. record { told = refl })

pub rule_for_every : RuleForEvery step
rule_for_every u c = (by_rules u c).told

pub power_rule : PowerRule power_on
unfolding power_on
power_rule setting =
    let size = one_of (equals setting.packet 64) (equals setting.packet 512) in
    pick_all (λ (r : Result). given_power setting (number r)) (is_size setting.packet) _ _
    (λ e. inr (λ n. ⊎_elim n.0 n.1 (size.held e), refl))
    (λ e. inl (refl, (λ f. size.failed e (inl f), λ f. size.failed e (inr f))))
