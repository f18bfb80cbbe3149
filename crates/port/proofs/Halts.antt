-- THE LAW of splits and halts, proved of our step: a row that is answered 0 was asked of a sound unit and does what 01 says of it, a fault halts Bulk-OUT,
-- and SET_CONFIGURATION and reset leave nothing.
-- Assumes nothing.
use Prim.Native.Nat.{ℕ, ◌≤◌, ◌<◌}
use mathlib.Core.Path.{◌≡◌, refl, sym, ap, ◌∙◌, subst}
use mathlib.Core.Bool.{Bool, true, true≢false, false≢true}
use mathlib.Core.List.{List, [], ◌∷◌, ◌++◌}
use mathlib.Core.Logic.{◌⊎◌, inl, inr, ⊎_elim}
use native.Mathlib.Omega.{arith}
use lib.ListN.{length}
use borrow.Author.Tests.{eqb-true, eqb-false, eq-eqb, ne_eqb, lt-leb}
use Rattle.std.specs.Prelude.{Option, Some}
use Rattle.rules.specs.Choice.{◌≠ᵇ◌, ◌≤ᵇ◌, pick, decide}
use Rattle.rules.specs.Answers.{DONE, SUCCESS, Leaves, out_halted, leaves}
use Rattle.rules.specs.When.{Not}
use Rattle.rules.proofs.Choice.{pick_all, decide_all, at_true, at_false, ne_neb, neb_ne, neb_eq, Each}
use Rattle.rules.proofs.When.{Tells, differs, negated, sure, By, line}
use Rattle.wire.specs.Bytes.{bytes4}
use Rattle.rules.specs.Flags.{OFF, ON}
use Rattle.wire.specs.Setup.{read_setup}
use Rattle.wire.specs.When.{at, rows}
use Rattle.wire.specs.declared.types.Endpoint.TheVariants.{Out, In, Interrupt}
use Rattle.wire.specs.declared.types.Row.{Row}
use Rattle.wire.specs.declared.types.Row.TheVariants.{ClearFeature, SetFeature, GetStatus}
use Rattle.wire.specs.declared.types.Setup.{Setup}
use Rattle.wire.proofs.When.{Right, matched, unmatched, setup_read}
use Rattle.port.specs.Parts.{is_open_in, is_owed, is_none, keeps_halt, is_clear, out_of, in_of, interrupt_of, is_configured}
use Rattle.port.specs.Parts.{no_message, with_interrupt, with_split, with_interrupt_halted, fresh, broken, shut}
use Rattle.port.specs.Rows.{Reaction, answering, reacts, abort_rules, in_tag, initiate_abort_out, initiate_abort_in}
use Rattle.port.specs.Rows.{wrong_split, check_abort_out, check_abort_in, initiate_clear, check_clear}
use Rattle.port.specs.Rows.{answer_row, clearing, clear_feature_out, clear_feature_in, effected}
use Rattle.port.specs.Device.{Device, Result, is_sound, with_state, made}
use Rattle.port.specs.Calls.{setup_rules, asked, setup_outcome, answered, setup}
use Rattle.port.specs.Step.{out_packet, soundly, step}
use Rattle.port.specs.When.{OutHalted, InHalted, InterruptHalted, InOpen, Owed}
use Rattle.port.specs.Lists.{bulk, faults, own}
use Rattle.port.specs.Laws.{OneOf, LeftAs}
use Rattle.port.specs.Halts.{Dropped, SplitBecomes, abort_status, Counts, On, AbortsOut, ChecksOut, AbortsIn, ChecksIn, Clears, ChecksClear}
use Rattle.port.specs.Halts.{FreesOut, HaltsOut, FreesIn, HaltsIn, InterruptMoves, FreesInterrupt}
use Rattle.port.specs.Halts.{HaltsInterrupt, TellsHalt, Faults, Cleared, SplitsAndHalts}
use Rattle.port.specs.declared.types.OutMessage.{OutMessage}
use Rattle.port.specs.declared.types.BulkOut.{BulkOut}
use Rattle.port.specs.declared.types.BulkIn.{BulkIn}
use Rattle.port.specs.declared.types.Setting.{Setting}
use Rattle.port.specs.declared.types.Split.{Split}
use Rattle.port.specs.declared.types.Split.TheVariants.{None, AbortOut, AbortIn, Clear}
use Rattle.port.specs.declared.types.Effect.{Effect}
use Rattle.port.specs.declared.types.Effect.TheVariants.{AbortsOut as aborts_out, AbortsIn as aborts_in}
use Rattle.port.specs.Answer.{SetupOutcome}
use Rattle.std.specs.Prelude.{Err}
use Rattle.port.proofs.Soundness.{Sound, sound_of}
use Rattle.port.proofs.KeepsOut.{halt_flag}
use Rattle.port.proofs.Calls.{own_numbers, leaves_table, configures_anew, resets_anew}
use Rattle.port.proofs.When.{is_clear_lem}

-- ** a row that is answered 0

-- what is said of a unit, of the one behind the request and of the answer's bytes, holds of a reaction
abbrev Does : (Device → Device → List ℕ → Type 0) → Device → Reaction → Type 0
Does Then u r = Then u (with_state u (effected u.state r.effect)) r.answer.bytes

-- and so of a row's, where no other row can match
served : (row : Row) (Then : Device → Device → List ℕ → Type 0) → ((u : Device) → Sound u.state → Does Then u (answer_row u.state row)) → On step row Then
unfolding step soundly setup setup_outcome answered asked
served row Then k u p m =
    pick_all P (is_sound u) _ _
    (λ e. decide_all (λ (x : SetupOutcome). P (answered u x)) Err (setup_rules (length p.packet) p.room) _ (λ z. absurd (omega arith), tt)
    (λ _. by (sound_of _ e) (read_setup p.packet) (setup_read p.packet)))
    (λ _ z. absurd (omega arith))
  where
    P : Result → Type 0
    P r = r.answer.verdict.number ≡ 0 → Then u r.unit r.answer.bytes

    by : Sound u.state → (x : Option Setup) → Right p.packet rows x → P (answered u (asked u.state x))
    by h x (matched e n only) =
        subst (λ (y : Option Setup). P (answered u (asked u.state y))) (ap Some (only _ m) ∙ sym e)
        (pick_all (λ (x : SetupOutcome). P (answered u x)) (is_configured u.state) _ _ (λ _ _. k u h) (λ _ z. absurd (omega arith)))
    by h x (unmatched e none) = absurd (none _ m)

-- ** tests on the split

is_none_lem : (x : Split) → Tells (is_none x) (x ≡ None)
is_none_lem x = record { held = by x; failed = λ f e. true≢false (sym (ap is_none e) ∙ f) }
  where
    by : (x : Split) → is_none x ≡ true → x ≡ None
    by None e = refl
    by (AbortOut count) e = absurd (false≢true e)
    by (AbortIn count) e = absurd (false≢true e)
    by Clear e = absurd (false≢true e)

keeps_halt_lem : (x : Split) → Tells (keeps_halt x) ((x ≡ Clear) ⊎ ((n : ℕ) × (x ≡ AbortOut n)))
keeps_halt_lem x = record { held = by x; failed = λ f. ⊎_elim (λ e. true≢false (sym (ap keeps_halt e) ∙ f)) (λ e. true≢false (sym (ap keeps_halt e.1) ∙ f)) }
  where
    by : (x : Split) → keeps_halt x ≡ true → (x ≡ Clear) ⊎ ((n : ℕ) × (x ≡ AbortOut n))
    by None e = absurd (false≢true e)
    by (AbortOut n) e = inr (n, refl)
    by (AbortIn n) e = absurd (false≢true e)
    by Clear e = inl refl

-- ** aborts

-- `seen` is the tag that is answered, `its` that of an open transfer
module _ (u : Device) (effect : Effect) (seen its tag : ℕ) {isOpen : Bool} {Open : Type 0} (opens : Tells isOpen Open) (same : Open → seen ≡ its) where
  abbrev aborting : Reaction
  aborting = decide (λ status. answering (status ∷ seen ∷ [])) (abort_rules u.state.split isOpen seen tag) (reacts effect (SUCCESS ∷ seen ∷ []))

  abort_given : By (λ r. at r.answer.bytes 0) (λ _. abort_status u Open its tag) aborting
  abort_given =
      line _ (negated (is_none_lem u.state.split)) refl
      (λ _. line _ (negated opens) refl
      (λ o. line _ (subst (λ (t : ℕ). Tells (tag ≠ᵇ seen) (Not (tag ≡ t))) (same (sure _ opens o)) (differs tag seen)) refl (λ _. record { told = refl })))

  -- a status other than 01 does nothing
  abort_ways : (P : Reaction → Type 0) → ((status : ℕ) → Not (status ≡ 0x01) → abort_status u Open its tag status → P (answering (status ∷ seen ∷ [])))
      → (abort_status u Open its tag 0x01 → P (reacts effect (SUCCESS ∷ seen ∷ []))) → P aborting
  abort_ways P refuses does =
      decide_all (λ r. abort_status u Open its tag (at r.answer.bytes 0) → P r) (λ status. answering (status ∷ seen ∷ [])) (abort_rules u.state.split isOpen seen tag) _
      (refuses _ (λ e. omega arith), (refuses _ (λ e. omega arith), (refuses _ (λ e. omega arith), tt))) (λ _. does) abort_given.told

-- what breaks Bulk-OUT drops the unfinished message
broken_drops : (u v : Device) (halted : ℕ) → out_of v.state ≡ broken halted (out_of u.state) → v.message ≡ u.message → Dropped u v
unfolding broken
broken_drops u v halted e m = record {
  closed = λ n. n (ap (λ (o : BulkOut). o.transfer.left) e);
  ready_stays = λ r. (ap (λ (o : BulkOut). o.message) e ∙ at_true _ _ _ (eq-eqb _ _ r), m);
  unfinished_goes = λ n.
      let gone : (out_of v.state).message ≡ no_message = ap (λ (o : BulkOut). o.message) e ∙ at_false _ _ _ (ne_eqb _ _ n) in
      (λ r. let z = ap (λ (m : OutMessage). m.ready) gone in omega arith, ap (λ (m : OutMessage). m.held) gone);
}

abort_out : (u : Device) (tag : ℕ) → Does (AbortsOut tag) u (initiate_abort_out u.state tag)
unfolding initiate_abort_out effected broken
abort_out u tag =
    abort_ways u aborts_out _ _ tag (differs (out_of u.state).transfer.left 0) (λ _. refl) (Does (AbortsOut tag) u)
    (λ status n given. record {
      status = given;
      its_tag = refl;
      unless = λ _. refl;
      split = λ e. absurd (n e);
      halts = λ e. absurd (n e);
      tag_stays = refl;
      in_stays = (refl, refl);
      panel_stays = (refl, refl, refl);
    })
    (λ given. record {
      status = given;
      its_tag = refl;
      unless = λ n. absurd (n refl);
      split = λ _. refl;
      halts = λ _. (refl, broken_drops u _ ON refl refl);
      tag_stays = refl;
      in_stays = (refl, refl);
      panel_stays = (refl, refl, refl);
    })

abort_in : (u : Device) (tag : ℕ) → Does (AbortsIn tag) u (initiate_abort_in u.state tag)
unfolding initiate_abort_in effected
abort_in u tag =
    abort_ways u aborts_in _ _ tag (differs (in_of u.state).transfer.phase 0) own_tag (Does (AbortsIn tag) u)
    (λ status n given. record {
      status = given;
      its_tag = (own_tag, recent_tag);
      unless = λ _. refl;
      split = λ e. absurd (n e);
      drops = λ e. absurd (n e);
      owes = λ e. absurd (n e);
      halt_stays = refl;
      tag_stays = refl;
      out_stays = (refl, refl);
      panel_stays = (refl, refl, refl);
    })
    (λ given. record {
      status = given;
      its_tag = (own_tag, recent_tag);
      unless = λ n. absurd (n refl);
      split = λ _. refl;
      drops = λ _. refl;
      owes = λ _. (refl, refl);
      halt_stays = refl;
      tag_stays = refl;
      out_stays = (refl, refl);
      panel_stays = (refl, refl, refl);
    })
  where
    own_tag : InOpen u → in_tag (in_of u.state) ≡ (in_of u.state).transfer.tag
    own_tag o = at_true _ _ _ (ne_neb _ _ o)

    recent_tag : Not (InOpen u) → in_tag (in_of u.state) ≡ (in_of u.state).recent
    recent_tag n = pick_all (λ (t : ℕ). t ≡ (in_of u.state).recent) (is_open_in (in_of u.state)) _ _ (λ o. absurd (n (neb_ne _ _ o))) (λ _. refl)

-- ** checks

-- the split ends, and that is all
ended : (u : Device) → SplitBecomes u None (with_state u (with_split u.state None))
ended u = (refl, (refl, refl), (refl, refl), (refl, refl, refl))

-- no split is another
never : ◌≡◌ {A = ℕ} 0 1 → ⊥
never z = omega arith

-- the count in the answer of a check
counted : (status d0 n m : ℕ) → n ≡ m → Counts m ((status ∷ d0 ∷ 0 ∷ 0 ∷ []) ++ bytes4 n)
unfolding bytes4
counted status d0 n m e = (omega arith, omega arith, omega arith, omega arith)

check_out : (u : Device) → Does ChecksOut u (check_abort_out u.state.split)
unfolding check_abort_out effected
check_out u = by u.state.split refl
  where
    wrong : ((n : ℕ) → Not (u.state.split ≡ AbortOut n)) → Does ChecksOut u wrong_split
    wrong w = record { status = inl (refl, w); d0 = refl; unless = λ _. refl; count = λ n e. absurd (w n e); no_count = λ _. counted 0x82 0 0 0 refl; ends = λ e. absurd (omega arith) }

    by : (s : Split) → u.state.split ≡ s → Does ChecksOut u (check_abort_out s)
    by None e = wrong (λ n f. never (cc))
    by (AbortOut n) e = record {
      status = inr (λ w. w n e, inr (λ z. z, refl));
      d0 = refl;
      unless = λ z. absurd (z refl);
      count = λ m f. counted 0x01 0 n m (cc);
      no_count = λ z. absurd (z refl);
      ends = λ _. ended u;
    }
    by (AbortIn n) e = wrong (λ n f. never (cc))
    by Clear e = wrong (λ n f. never (cc))

check_in : (u : Device) → Does ChecksIn u (check_abort_in (in_of u.state) u.state.split)
unfolding check_abort_in effected
check_in u = by u.state.split refl
  where
    wrong : ((n : ℕ) → Not (u.state.split ≡ AbortIn n)) → Does ChecksIn u wrong_split
    wrong w = record {
      status = inl (refl, w);
      d0 = (λ e. absurd (omega arith), λ _. refl);
      unless = λ _. refl;
      count = λ n e. absurd (w n e);
      no_count = λ _. counted 0x82 0 0 0 refl;
      ends = λ e. absurd (omega arith);
    }

    by : (s : Split) → u.state.split ≡ s → Does ChecksIn u (check_abort_in (in_of u.state) s)
    by None e = wrong (λ n f. never (cc))
    by (AbortOut n) e = wrong (λ n f. never (cc))
    by (AbortIn n) e =
        pick_all (Does ChecksIn u) (is_owed (in_of u.state)) _ _
        (λ o. record {
          status = inr (λ w. w n e, inl (refl, eqb-true _ _ o));
          d0 = (λ _. refl, λ z. absurd (z refl));
          unless = λ _. refl;
          count = λ m f z. absurd (omega arith);
          no_count = λ _. counted 0x02 1 0 0 refl;
          ends = λ z. absurd (omega arith);
        })
        (λ o. record {
          status = inr (λ w. w n e, inr (eqb-false _ _ o, refl));
          d0 = (λ z. absurd (omega arith), λ _. refl);
          unless = λ z. absurd (z refl);
          count = λ m f _. counted 0x01 0 n m (cc);
          no_count = λ z. absurd (z refl);
          ends = λ _. ended u;
        })
    by Clear e = wrong (λ n f. never (cc))

-- ** clear

clear : (u : Device) → Does Clears u (initiate_clear u.state.split)
unfolding initiate_clear effected clearing
clear u =
    pick_all (Does Clears u) (is_clear u.state.split) _ _
    (λ c. record {
      status = inl (refl, (is_clear_lem u.state.split).held c);
      unless = λ _. refl;
      split = λ e. absurd (omega arith);
      message_goes = λ e. absurd (omega arith);
      reply_goes = λ e. absurd (omega arith);
      tags = λ e. absurd (omega arith);
      halts = λ e. absurd (omega arith);
      owes = λ e. absurd (omega arith);
      none_owed = λ e. absurd (omega arith);
      in_halt_stays = refl;
      panel_stays = (refl, refl, refl);
    })
    (λ c. record {
      status = inr ((is_clear_lem u.state.split).failed c, refl);
      unless = λ n. absurd (n refl);
      split = λ _. refl;
      message_goes = λ _. (λ e. omega arith, refl, λ n. n refl);
      reply_goes = λ _. side (λ b. b.reply.unsent ≡ 0) (λ _. refl) (λ _. refl);
      tags = λ _. (refl, side (λ b. b.recent ≡ 0) (λ _. refl) (λ _. refl));
      halts = λ _. refl;
      owes = λ _ o. side (λ b. (b.transfer.phase ≡ 3) × (b.transfer.tag ≡ (in_of u.state).transfer.tag)) (λ _. (refl, refl)) (λ n. absurd (n o));
      none_owed = λ _ n. side (λ b. Not (Not (b.transfer.phase ≡ 0))) (λ o. absurd (n o)) (λ _ k. k refl);
      in_halt_stays = side (λ b. b.halted ≡ (in_of u.state).halted) (λ _. refl) (λ _. refl);
      panel_stays = (refl, refl, refl);
    })
  where
    -- what holds of the Bulk-IN side, whether a transfer was open or not
    side : (P : BulkIn → Type 0) {a b : BulkIn} → (InOpen u → P a) → (Not (InOpen u) → P b) → P (pick (is_open_in (in_of u.state)) a b)
    side P f g = pick_all P _ _ _ (λ o. f (neb_ne _ _ o)) (λ o. g (λ n. n (neb_eq _ _ o)))

check_clear_lem : (u : Device) → Does ChecksClear u (check_clear (in_of u.state) u.state.split)
unfolding check_clear effected
check_clear_lem u =
    let other = negated (is_clear_lem u.state.split) in
    pick_all (Does ChecksClear u) _ _ _
    (λ c. record { status = inl (refl, other.held c); d0 = (λ e. absurd (omega arith), λ _. refl); unless = λ _. refl; ends = λ e. absurd (omega arith) })
    (λ c. pick_all (Does ChecksClear u) _ _ _
    (λ o. record { status = inr (other.failed c, inl (refl, eqb-true _ _ o)); d0 = (λ _. refl, λ z. absurd (z refl)); unless = λ _. refl; ends = λ e. absurd (omega arith) })
    (λ o. record { status = inr (other.failed c, inr (eqb-false _ _ o, refl)); d0 = (λ e. absurd (omega arith), λ _. refl); unless = λ z. absurd (z refl); ends = λ _. ended u }))

-- ** CLEAR_FEATURE and SET_FEATURE

free_out : (u : Device) → Does FreesOut u (answer_row u.state (ClearFeature Out))
unfolding answer_row effected clear_feature_out broken
free_out u = record {
  drops = broken_drops u _ _ refl refl;
  halt_stays = λ k. pick_all (λ (halted : ℕ). halted ≡ (out_of u.state).halted) _ _ _ (λ _. refl) (λ f. absurd ((keeps_halt_lem u.state.split).failed f k));
  halt_ends = λ n. pick_all (λ (halted : ℕ). Not (halted ≡ 1)) _ _ _ (λ k. absurd (n ((keeps_halt_lem u.state.split).held k))) (λ _ e. omega arith);
  tag_stays = refl;
  split_stays = refl;
  in_stays = (refl, refl);
  panel_stays = (refl, refl, refl);
}

free_in : (u : Device) → Does FreesIn u (answer_row u.state (ClearFeature In))
unfolding answer_row effected clear_feature_in shut
free_in u = record {
  halt_ends = side (λ b. Not (b.halted ≡ 1)) (λ _ e. omega arith) (λ _ _ e. omega arith) (λ _ e. omega arith);
  closes = side (λ b. Not (Not (b.transfer.phase ≡ 0))) (λ _ n. n refl) (λ _ _ n. n refl) (λ c n. n c);
  reply_goes = λ o n. side (λ b. b.reply.unsent ≡ 0) (λ w. absurd (n w)) (λ _ _. refl) (λ c. absurd (o c));
  reply_stays = λ w. (side (λ b. b.reply ≡ (in_of u.state).reply) (λ _. refl) (λ n o. absurd (⊎_elim n (λ c. c o) w)) (λ _. refl), refl);
  tag_stays = side (λ b. b.recent ≡ (in_of u.state).recent) (λ _. refl) (λ _ _. refl) (λ _. refl);
  split_stays = refl;
  out_stays = (refl, refl);
  panel_stays = (refl, refl, refl);
}
  where
    -- what holds of the Bulk-IN side: a packet was owed, a transfer was open, or none was
    side : (P : BulkIn → Type 0) {a b c : BulkIn} → (Owed u → P a) → (Not (Owed u) → InOpen u → P b) → ((in_of u.state).transfer.phase ≡ 0 → P c)
        → P (pick (is_owed (in_of u.state)) a (pick (is_open_in (in_of u.state)) b c))
    side P f g h = pick_all P _ _ _ (λ o. f (eqb-true _ _ o)) (λ n. pick_all P _ _ _ (λ o. g (eqb-false _ _ n) (neb_ne _ _ o)) (λ c. h (neb_eq _ _ c)))

halt_out : (u : Device) → Does HaltsOut u (answer_row u.state (SetFeature Out))
unfolding answer_row effected broken
halt_out u = record { halts = (refl, broken_drops u _ _ refl refl); tag_stays = refl; split_stays = refl; in_stays = (refl, refl); panel_stays = (refl, refl, refl) }

halt_in : (u : Device) → Does HaltsIn u (answer_row u.state (SetFeature In))
unfolding answer_row effected
halt_in u = record { halts = refl; transfer_stays = refl; reply_stays = (refl, refl); tag_stays = refl; split_stays = refl; out_stays = (refl, refl); panel_stays = (refl, refl, refl) }

-- the halt of Interrupt-IN alone
interrupt_moves : (u : Device) (halted : ℕ) → InterruptMoves u (with_state u (with_interrupt u.state (with_interrupt_halted (interrupt_of u.state) halted)))
interrupt_moves u halted = record { status_stays = refl; packet_stays = refl; split_stays = refl; port_stays = (refl, refl); out_stays = (refl, refl); in_stays = (refl, refl) }

free_interrupt : (u : Device) → Does FreesInterrupt u (answer_row u.state (ClearFeature Interrupt))
unfolding answer_row effected
free_interrupt u = (λ e. omega arith, interrupt_moves u OFF)

halt_interrupt : (u : Device) → Does HaltsInterrupt u (answer_row u.state (SetFeature Interrupt))
unfolding answer_row effected
halt_interrupt u = (refl, interrupt_moves u ON)

-- ** GET_STATUS

-- a halt is 0 or 1
tells : (u : Device) (halted : ℕ) → halted ≤ 1 → TellsHalt (halted ≡ 1) u u (halted ∷ 0 ∷ [])
tells u halted flag = (λ e. rw e, λ n. let z : halted ≡ 0 = omega arith in rw z, refl)

tell_out : (u : Device) → Sound u.state → Does (λ u. TellsHalt (OutHalted u) u) u (answer_row u.state (GetStatus Out))
unfolding answer_row effected
tell_out u h = tells u (out_of u.state).halted (halt_flag u.state h)

tell_in : (u : Device) → Sound u.state → Does (λ u. TellsHalt (InHalted u) u) u (answer_row u.state (GetStatus In))
unfolding answer_row effected
tell_in u h = tells u (in_of u.state).halted h.inward.halted

tell_interrupt : (u : Device) → Sound u.state → Does (λ u. TellsHalt (InterruptHalted u) u) u (answer_row u.state (GetStatus Interrupt))
unfolding answer_row effected
tell_interrupt u h = tells u (interrupt_of u.state).halted h.interrupt.halted

-- ** a fault, SET_CONFIGURATION and reset

each_of : (P : ℕ → Type 0) (n : ℕ) (ns : List ℕ) → Each P ns → OneOf n ns → P n
each_of P n [] h o = absurd o
each_of P n (m ∷ ms) h (inl e) = rw e h.0
each_of P n (m ∷ ms) h (inr o) = each_of P n ms h.1 o

-- of the numbers of a packet, those above 5 halt
fault_leaves : (n : ℕ) → OneOf n (DONE ∷ bulk faults) → 5 < n → leaves n ≡ out_halted
unfolding leaves pick
fault_leaves n o l =
    sym (at_false (n ≤ᵇ 5) out_halted (leaves n) (lt-leb _ _ l))
    ∙ each_of P n (DONE ∷ bulk faults) (refl, (refl, (refl, (refl, (refl, (refl, (refl, (refl, (refl, (refl, (refl, (refl, (refl, (refl, tt)))))))))))))) o
  where
    P : ℕ → Type 0
    P m = pick (m ≤ᵇ 5) out_halted (leaves m) ≡ out_halted

fault : (u : Device) (s : List ℕ) → 5 < (step u (out_packet s)).answer.verdict.number → Faults u (step u (out_packet s)).unit
unfolding own broken
fault u s l =
    subst (λ (r : Result). Faults u r.unit)
    (sym (subst (λ (k : Leaves). LeftAs k u (step u (out_packet s))) (fault_leaves _ (own_numbers u (out_packet s)) l) (leaves_table u (out_packet s) (λ e. omega arith))))
    (record { halts = (refl, broken_drops u _ _ refl refl); tag_stays = refl; split_stays = refl; in_stays = (refl, refl); panel_stays = (refl, refl, refl) })

cleared : (setting : Setting) (configured : ℕ) → Cleared (made setting configured)
unfolding made fresh
cleared setting configured = record {
  message_goes = (λ e. omega arith, refl, λ n. n refl);
  reply_goes = (refl, λ n. n refl);
  runs = (λ e. omega arith, λ e. omega arith, λ e. omega arith);
  split = refl;
  tags = (refl, refl);
  panel = (refl, refl);
  interrupt = (refl, refl);
}

-- ** THE LAW

pub splits_and_halts : SplitsAndHalts step
unfolding answer_row
splits_and_halts = record {
  aborts_out = λ tag. served _ (AbortsOut tag) (λ u _. abort_out u tag);
  checks_out = served _ ChecksOut (λ u _. check_out u);
  aborts_in = λ tag. served _ (AbortsIn tag) (λ u _. abort_in u tag);
  checks_in = served _ ChecksIn (λ u _. check_in u);
  clears = served _ Clears (λ u _. clear u);
  checks_clear = served _ ChecksClear (λ u _. check_clear_lem u);
  frees_out = served _ FreesOut (λ u _. free_out u);
  frees_in = served _ FreesIn (λ u _. free_in u);
  halts_out = served _ HaltsOut (λ u _. halt_out u);
  halts_in = served _ HaltsIn (λ u _. halt_in u);
  frees_interrupt = served _ FreesInterrupt (λ u _. free_interrupt u);
  halts_interrupt = served _ HaltsInterrupt (λ u _. halt_interrupt u);
  tells_out = served _ (λ u. TellsHalt (OutHalted u) u) tell_out;
  tells_in = served _ (λ u. TellsHalt (InHalted u) u) tell_in;
  tells_interrupt = served _ (λ u. TellsHalt (InterruptHalted u) u) tell_interrupt;
  faults = fault;
  configures = configures_anew Cleared cleared;
  resets = resets_anew Cleared cleared;
}
