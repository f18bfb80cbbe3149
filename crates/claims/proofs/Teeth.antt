-- What the claim on messages shuts out: histories that no port may leave on the wire. Each is refuted by computation, with no unit named.
-- Assumes nothing.
use Prim.Native.Nat.{ℕ, ◌-◌}
use mathlib.Core.Path.{◌≡◌, refl, sym, ap, ◌∙◌, subst}
use mathlib.Core.Bool.{false, true≢false}
use mathlib.Core.List.{List, [], ◌∷◌, ◌++◌, append-nil, append_assoc}
use native.Mathlib.Omega.{arith}
use lib.ListN.{length, replicate}
use Rattle.rules.specs.Choice.{no, ◌≠ᵇ◌, ◌or◌, ◌and◌, pick}
use Rattle.rules.specs.Answers.{only}
use Rattle.port.specs.Step.{Call, out_packet, take_into, bus_reset, setup_of}
use Rattle.port.specs.Trace.{Event}
use Rattle.claims.specs.Command.{cut_up, sending}
use Rattle.claims.specs.Wire.{heard_packet, heard_setup, heard, heard_of}
use Rattle.claims.specs.Acted.{Acting}
use Rattle.claims.specs.Handed.{Brought, Allowed, Legal, AllBrought}
use Rattle.claims.proofs.Parse.{parse, skipped, searched, brought_found}

-- ** how the histories are written

abbrev told : Call → ℕ → List ℕ → Event
told c number bytes = record { call = c; answer = record { verdict = only number; bytes = bytes } }

-- a packet that is accepted: the header of a command with `size` data bytes, and what follows it; and one without a header
abbrev sent : ℕ → ℕ → ℕ → List ℕ → Event
sent tag size end more = told (out_packet ((1 ∷ tag ∷ (255 - tag) ∷ 0 ∷ size ∷ 0 ∷ 0 ∷ 0 ∷ end ∷ 0 ∷ 0 ∷ 0 ∷ []) ++ more)) 0 []

abbrev more : List ℕ → Event
more s = told (out_packet s) 0 []

abbrev pub handed : List ℕ → Event
handed bytes = told (take_into 1024) 0 bytes

-- SETP; 27 with a space before it and a newline behind; and .5 with a newline
abbrev SETP : List ℕ
SETP = 0x53 ∷ 0x45 ∷ 0x54 ∷ 0x50 ∷ []

abbrev TO_27 : List ℕ
TO_27 = 0x20 ∷ 0x32 ∷ 0x37 ∷ 0x0A ∷ []

abbrev SETP_27 : List ℕ
SETP_27 = 0x53 ∷ 0x45 ∷ 0x54 ∷ 0x50 ∷ 0x20 ∷ 0x32 ∷ 0x37 ∷ []

abbrev AND_A_HALF : List ℕ
AND_A_HALF = 0x2E ∷ 0x35 ∷ 0x0A ∷ []

-- a packet with a wrong inverse, which halts Bulk-OUT
abbrev faulty : Event
faulty = told (out_packet (1 ∷ 2 ∷ 2 ∷ 0 ∷ 4 ∷ 0 ∷ 0 ∷ 0 ∷ 1 ∷ 0 ∷ 0 ∷ 0 ∷ [])) 8 []

-- CLEAR_FEATURE and SET_FEATURE on Bulk-OUT
abbrev clear_feature : Event
clear_feature = told (setup_of (0x02 ∷ 1 ∷ 0 ∷ 0 ∷ 0x01 ∷ 0 ∷ 0 ∷ 0 ∷ []) 24) 0 []

abbrev set_feature : Event
set_feature = told (setup_of (0x02 ∷ 3 ∷ 0 ∷ 0 ∷ 0x01 ∷ 0 ∷ 0 ∷ 0 ∷ []) 24) 0 []

-- INITIATE_ABORT_BULK_OUT of tag 1, INITIATE_CLEAR and SET_CONFIGURATION, granted
abbrev abort : Event
abort = told (setup_of (0xA2 ∷ 1 ∷ 1 ∷ 0 ∷ 0x01 ∷ 0 ∷ 2 ∷ 0 ∷ []) 24) 0 (0x01 ∷ 1 ∷ [])

abbrev clear : Event
clear = told (setup_of (0xA1 ∷ 5 ∷ 0 ∷ 0 ∷ 0 ∷ 0 ∷ 1 ∷ 0 ∷ []) 24) 0 (0x01 ∷ [])

abbrev set_configuration : Event
set_configuration = told (setup_of (0x00 ∷ 9 ∷ 1 ∷ 0 ∷ 0 ∷ 0 ∷ 0 ∷ 0 ∷ []) 24) 0 []

-- 60 bytes in two packets, of which the second has the last 8
abbrev begins : Event
begins = sent 1 60 1 (replicate 52 7)

abbrev goes_on : Event
goes_on = more (replicate 8 7)

-- ** how they are refuted

legal_last : (Source : List Event → List ℕ → Type 0) (before es : List Event) (e : Event) → Legal Source before (es ++ (e ∷ [])) → Allowed Source (before ++ es) (heard_of e)
legal_last Source before [] e l = subst (λ (b : List Event). Allowed Source b (heard_of e)) (sym (append-nil before)) l.0
legal_last Source before (f ∷ es) e l = subst (λ (b : List Event). Allowed Source b (heard_of e)) (append_assoc before (f ∷ []) es) (legal_last Source (before ++ (f ∷ [])) es e l.1)

-- no way of cutting the history brings the message
pub bad : (es : List Event) (m : List ℕ) → searched 64 es m ≡ false → AllBrought 64 (es ++ (handed m ∷ [])) → ⊥
unfolding heard pick
bad es m e l = true≢false (sym (brought_found 64 refl (omega arith) es m (legal_last (Brought 64) [] es (handed m) l)) ∙ e)

-- every definition that a history computes with
unfoldable pub opened : ℕ
unfolding searched parse skipped heard heard_packet heard_setup pick ◌and◌ ◌or◌ no ◌≠ᵇ◌
opened = 0

-- ** the incident, and its kind

-- `SETP 27.5` and a newline, its TransferSize damaged to 7: what is surplus is not left out
pub damaged_size : AllBrought 64 (sent 1 7 1 (SETP_27 ++ AND_A_HALF ++ (0 ∷ 0 ∷ [])) ∷ handed SETP_27 ∷ []) → ⊥
unfolding opened
damaged_size = bad (sent 1 7 1 (SETP_27 ++ AND_A_HALF ++ (0 ∷ 0 ∷ [])) ∷ []) SETP_27 refl

-- WHAT IS NOT SHUT OUT, since alignment bytes may be anything (02, request 2): `SETP 275`, its TransferSize damaged from 8 to 7. The 5 is taken for an
-- alignment byte, and the packet is just what a host sends for `SETP 27`
pub damaged_within_four : AllBrought 64 (sent 1 7 1 (SETP_27 ++ (0x35 ∷ [])) ∷ handed SETP_27 ∷ [])
unfolding opened sending cut_up
damaged_within_four = (
  tt,
  (
    record {
      earlier = [];
      bringing = sent 1 7 1 (SETP_27 ++ (0x35 ∷ [])) ∷ [];
      later = [];
      stretches = refl;
      first = tt;
      unbroken = (tt, tt);
      whole = record {
        others = [];
        pieces = record { empties = 0; tag = 1; bytes = SETP_27; alignment = 0x35 ∷ [] } ∷ [];
        before = tt;
        sendable = record { good = (omega arith, omega arith, omega arith, refl, tt); some = omega arith; fits = omega arith };
        sent = refl;
        message = refl;
      };
      waits = tt;
    },
    tt,
  ),
)

-- a transfer of 10 bytes ended in a short packet after 8: the next header does not make up the rest
pub cut_short : AllBrought 64 (sent 1 10 1 (SETP_27 ++ (0x2E ∷ [])) ∷ sent 2 4 1 SETP ∷ handed (SETP_27 ++ (0x2E ∷ 1 ∷ 2 ∷ [])) ∷ []) → ⊥
unfolding opened
cut_short = bad (sent 1 10 1 (SETP_27 ++ (0x2E ∷ [])) ∷ sent 2 4 1 SETP ∷ []) (SETP_27 ++ (0x2E ∷ 1 ∷ 2 ∷ [])) refl

-- 52 of 60 bytes, an empty packet, and the next header as the rest
pub given_up : AllBrought 64 (begins ∷ more [] ∷ sent 2 4 1 SETP ∷ handed (replicate 52 7 ++ (1 ∷ 2 ∷ 253 ∷ 0 ∷ 4 ∷ 0 ∷ 0 ∷ 0 ∷ [])) ∷ []) → ⊥
unfolding opened
given_up = bad (begins ∷ more [] ∷ sent 2 4 1 SETP ∷ []) (replicate 52 7 ++ (1 ∷ 2 ∷ 253 ∷ 0 ∷ 4 ∷ 0 ∷ 0 ∷ 0 ∷ [])) refl

-- the right bytes in packets of the wrong length: a short one in the middle
pub short_in_the_middle : AllBrought 64 (begins ∷ more (replicate 4 7) ∷ more (replicate 4 7) ∷ handed (replicate 60 7) ∷ []) → ⊥
unfolding opened
short_in_the_middle = bad (begins ∷ more (replicate 4 7) ∷ more (replicate 4 7) ∷ []) (replicate 60 7) refl

-- bytes behind the alignment, and an alignment byte handed over as data
pub surplus : AllBrought 64 (sent 1 4 1 (SETP ++ (0 ∷ 0 ∷ 0 ∷ 0 ∷ [])) ∷ handed SETP ∷ []) → ⊥
unfolding opened
surplus = bad (sent 1 4 1 (SETP ++ (0 ∷ 0 ∷ 0 ∷ 0 ∷ [])) ∷ []) SETP refl

pub alignment_given : AllBrought 64 (sent 1 3 1 SETP ∷ handed SETP ∷ []) → ⊥
unfolding opened
alignment_given = bad (sent 1 3 1 SETP ∷ []) SETP refl

-- a header with tag 0, a wrong inverse and every reserved byte set; and with one of them
pub bad_header : AllBrought 64 (more ((1 ∷ 0 ∷ 1 ∷ 1 ∷ 4 ∷ 0 ∷ 0 ∷ 0 ∷ 3 ∷ 1 ∷ 1 ∷ 1 ∷ []) ++ SETP) ∷ handed SETP ∷ []) → ⊥
unfolding opened
bad_header = bad (more ((1 ∷ 0 ∷ 1 ∷ 1 ∷ 4 ∷ 0 ∷ 0 ∷ 0 ∷ 3 ∷ 1 ∷ 1 ∷ 1 ∷ []) ++ SETP) ∷ []) SETP refl

pub reserved_byte : AllBrought 64 (more ((1 ∷ 1 ∷ 254 ∷ 0 ∷ 4 ∷ 0 ∷ 0 ∷ 0 ∷ 1 ∷ 0 ∷ 0 ∷ 1 ∷ []) ++ SETP) ∷ handed SETP ∷ []) → ⊥
unfolding opened
reserved_byte = bad (more ((1 ∷ 1 ∷ 254 ∷ 0 ∷ 4 ∷ 0 ∷ 0 ∷ 0 ∷ 1 ∷ 0 ∷ 0 ∷ 1 ∷ []) ++ SETP) ∷ []) SETP refl

-- ** other bytes than those sent

pub invented : AllBrought 64 (handed SETP ∷ []) → ⊥
unfolding opened
invented = bad [] SETP refl

pub altered : AllBrought 64 (sent 1 4 1 SETP ∷ handed TO_27 ∷ []) → ⊥
unfolding opened
altered = bad (sent 1 4 1 SETP ∷ []) TO_27 refl

pub wrong_order : AllBrought 64 (sent 1 4 0 SETP ∷ sent 2 4 1 TO_27 ∷ handed (TO_27 ++ SETP) ∷ []) → ⊥
unfolding opened
wrong_order = bad (sent 1 4 0 SETP ∷ sent 2 4 1 TO_27 ∷ []) (TO_27 ++ SETP) refl

pub second_half_alone : AllBrought 64 (sent 1 4 0 SETP ∷ sent 2 4 1 TO_27 ∷ handed TO_27 ∷ []) → ⊥
unfolding opened
second_half_alone = bad (sent 1 4 0 SETP ∷ sent 2 4 1 TO_27 ∷ []) TO_27 refl

-- nothing, for a message
pub empty_message : AllBrought 64 (sent 1 4 1 SETP ∷ handed [] ∷ []) → ⊥
unfolding opened
empty_message = bad (sent 1 4 1 SETP ∷ []) [] refl

-- ** too soon: no transfer is marked as the end, or the marked one is not complete, or it is not the last

pub too_soon : AllBrought 64 (sent 1 4 0 SETP ∷ handed SETP ∷ []) → ⊥
unfolding opened
too_soon = bad (sent 1 4 0 SETP ∷ []) SETP refl

pub half_a_transfer : AllBrought 64 (begins ∷ handed (replicate 52 7) ∷ []) → ⊥
unfolding opened
half_a_transfer = bad (begins ∷ []) (replicate 52 7) refl

pub run_over : AllBrought 64 (sent 1 4 1 SETP ∷ sent 2 4 1 TO_27 ∷ handed (SETP ++ TO_27) ∷ []) → ⊥
unfolding opened
run_over = bad (sent 1 4 1 SETP ∷ sent 2 4 1 TO_27 ∷ []) (SETP ++ TO_27) refl

pub run_over_by_the_next : AllBrought 64 (sent 1 4 1 SETP ∷ sent 2 4 1 TO_27 ∷ handed SETP ∷ []) → ⊥
unfolding opened
run_over_by_the_next = bad (sent 1 4 1 SETP ∷ sent 2 4 1 TO_27 ∷ []) SETP refl

-- ** the first half, kept over a halt; one transfer, joined across a break or an abort

pub half_kept : AllBrought 64 (sent 1 4 0 SETP ∷ faulty ∷ clear_feature ∷ sent 2 4 1 TO_27 ∷ handed (SETP ++ TO_27) ∷ []) → ⊥
unfolding opened
half_kept = bad (sent 1 4 0 SETP ∷ faulty ∷ clear_feature ∷ sent 2 4 1 TO_27 ∷ []) (SETP ++ TO_27) refl

pub half_kept_by_host : AllBrought 64 (sent 1 4 0 SETP ∷ set_feature ∷ clear_feature ∷ sent 2 4 1 TO_27 ∷ handed (SETP ++ TO_27) ∷ []) → ⊥
unfolding opened
half_kept_by_host = bad (sent 1 4 0 SETP ∷ set_feature ∷ clear_feature ∷ sent 2 4 1 TO_27 ∷ []) (SETP ++ TO_27) refl

pub joined_across : AllBrought 64 (begins ∷ clear_feature ∷ goes_on ∷ handed (replicate 60 7) ∷ []) → ⊥
unfolding opened
joined_across = bad (begins ∷ clear_feature ∷ goes_on ∷ []) (replicate 60 7) refl

pub joined_across_abort : AllBrought 64 (begins ∷ abort ∷ goes_on ∷ handed (replicate 60 7) ∷ []) → ⊥
unfolding opened
joined_across_abort = bad (begins ∷ abort ∷ goes_on ∷ []) (replicate 60 7) refl

-- ** the same message twice, and one that a clear, SET_CONFIGURATION or a reset dropped

pub twice : AllBrought 64 (sent 1 4 1 SETP ∷ handed SETP ∷ handed SETP ∷ []) → ⊥
unfolding opened
twice = bad (sent 1 4 1 SETP ∷ handed SETP ∷ []) SETP refl

pub dropped_by_clear : AllBrought 64 (sent 1 4 1 SETP ∷ clear ∷ handed SETP ∷ []) → ⊥
unfolding opened
dropped_by_clear = bad (sent 1 4 1 SETP ∷ clear ∷ []) SETP refl

pub dropped_by_configuration : AllBrought 64 (sent 1 4 1 SETP ∷ set_configuration ∷ handed SETP ∷ []) → ⊥
unfolding opened
dropped_by_configuration = bad (sent 1 4 1 SETP ∷ set_configuration ∷ []) SETP refl

pub dropped_by_reset : AllBrought 64 (sent 1 4 1 SETP ∷ told bus_reset 0 [] ∷ handed SETP ∷ []) → ⊥
unfolding opened
dropped_by_reset = bad (sent 1 4 1 SETP ∷ told bus_reset 0 [] ∷ []) SETP refl

-- ** what a TRIGGER, a refusal and a pulse may not be told for (ActsOnlyOn)

-- the bytes of a TRIGGER, as data of a transfer
abbrev TRIGGER : List ℕ
TRIGGER = 128 ∷ 9 ∷ 246 ∷ 0 ∷ 0 ∷ 0 ∷ 0 ∷ 0 ∷ 0 ∷ 0 ∷ 0 ∷ 0 ∷ []

abbrev telling : Call → ℕ → ℕ → List ℕ → Event
telling c number tells bytes = record { call = c; answer = record { verdict = record { number = number; tells = tells }; bytes = bytes } }

pub trigger_in_data : Acting 0 (sent 1 64 1 (replicate 52 7) ∷ telling (out_packet TRIGGER) 0 1 [] ∷ []) → ⊥
unfolding opened
trigger_in_data a = let k : ◌≡◌ {A = ℕ} 12 0 = (a.1.0.triggered refl).0.0 in omega arith

pub trigger_with_a_refusal : Acting 0 (telling (out_packet TRIGGER) 5 1 [] ∷ []) → ⊥
unfolding opened
trigger_with_a_refusal a = let k : ◌≡◌ {A = ℕ} 5 0 = (a.0.triggered refl).1 in omega arith

pub trigger_by_a_take : Acting 0 (telling (take_into 1024) 0 1 SETP ∷ []) → ⊥
unfolding opened
trigger_by_a_take a = (a.0.triggered refl).0

pub trigger_not_told : Acting 0 (telling (out_packet TRIGGER) 0 0 [] ∷ []) → ⊥
unfolding opened
trigger_not_told a = let k : ◌≡◌ {A = ℕ} 0 1 = a.0.triggers (refl, record { tag = 9; some = omega arith; fits = omega arith; bytes = refl }) refl in omega arith

pub half_with_16 : Acting 0 (telling (take_into 1024) 16 0 SETP ∷ []) → ⊥
unfolding opened
half_with_16 a = let k : ◌≡◌ {A = ℕ} 4 0 = ap length (a.0.refused (λ z. omega arith)).0 in omega arith
