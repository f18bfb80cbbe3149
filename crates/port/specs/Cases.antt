-- 01, "Packets on each side of a line": scripts of calls for a unit of size 64, just powered on and configured, with what it must answer.
-- Assumes nothing.
use Rattle.std.specs.Prelude.{ℕ, zero, suc, ◌-◌, ◌%◌, ◌/◌, ◌≡◌, List, [], ◌∷◌, ◌++◌, map, replicate}
use Rattle.rules.specs.Answers.{done}
use Rattle.port.specs.Answer.{Answer, numbered}
use Rattle.port.specs.Device.{power_on}
use Rattle.port.specs.Step.{in_poll, offer_reply, Call, out_packet, take_into, quiet, setup_of, Stepping, run}

-- ** how the rows are written

abbrev pub gives : List ℕ → Answer
gives bytes = record { verdict = done; bytes = bytes }

-- MsgID, tag, size and attributes, with what follows the header
abbrev pub packet : ℕ → ℕ → ℕ → ℕ → List ℕ → Call
packet msgid tag size attributes more =
    out_packet ((msgid ∷ tag ∷ (255 - tag) ∷ 0 ∷ (size % 256) ∷ (size / 256 % 256) ∷ 0 ∷ 0 ∷ attributes ∷ 0 ∷ 0 ∷ 0 ∷ []) ++ more)

abbrev pub message : ℕ → ℕ → ℕ → List ℕ → Call
message tag size end more = packet 1 tag size end more

abbrev pub request : ℕ → ℕ → Call
request tag size = packet 2 tag size 0 []

abbrev pub take : Call
take = take_into 1024

abbrev pub poll : Call
poll = quiet (in_poll 64)

abbrev pub offered : List ℕ → Call
offered bytes = quiet (offer_reply bytes)

-- the eight bytes of a setup packet, into a buffer of 24
abbrev pub control : ℕ → ℕ → ℕ → ℕ → ℕ → Call
control type asked value index size = setup_of (type ∷ asked ∷ value ∷ 0 ∷ index ∷ 0 ∷ size ∷ 0 ∷ []) 24

-- the same call, or answer, several times over
abbrev pub times : {A : Type 0} → ℕ → A → List A → List A
times zero a more = more
times (suc n) a more = a ∷ times n a more

-- 1,020 bytes without EOM, in 17 packets
abbrev pub filled : List Call → List Call
filled more = message 1 1020 0 (replicate 52 7) ∷ times 15 (out_packet (replicate 64 7)) (out_packet (replicate 8 7) ∷ more)

-- the header of a reply of n bytes to tag 1
abbrev pub reply : ℕ → ℕ → List ℕ → List ℕ
reply n attributes more = (2 ∷ 1 ∷ 254 ∷ 0 ∷ n ∷ 0 ∷ 0 ∷ 0 ∷ attributes ∷ 0 ∷ 0 ∷ 0 ∷ []) ++ more

-- ** the rows

unfoldable pub cases : List (List Call × List Answer)
cases =
    -- a: 0, ready, 6 bytes
    (
      out_packet (0x01 ∷ 0x01 ∷ 0xFE ∷ 0x00 ∷ 0x06 ∷ 0x00 ∷ 0x00 ∷ 0x00 ∷ 0x01 ∷ 0x00 ∷ 0x00 ∷ 0x00 ∷ 0x2A ∷ 0x49 ∷ 0x44 ∷ 0x4E ∷ 0x3F ∷ 0x0A ∷ 0x00 ∷ 0x00
          ∷ []) ∷ take ∷ [],
      numbered 0 ∷ gives (0x2A ∷ 0x49 ∷ 0x44 ∷ 0x4E ∷ 0x3F ∷ 0x0A ∷ []) ∷ [],
    )
    -- b: the same with third byte FF
    ∷ (
      out_packet (0x01 ∷ 0x01 ∷ 0xFF ∷ 0x00 ∷ 0x06 ∷ 0x00 ∷ 0x00 ∷ 0x00 ∷ 0x01 ∷ 0x00 ∷ 0x00 ∷ 0x00 ∷ 0x2A ∷ 0x49 ∷ 0x44 ∷ 0x4E ∷ 0x3F ∷ 0x0A ∷ 0x00 ∷ 0x00
          ∷ []) ∷ take ∷ [],
      numbered 8 ∷ numbered 16 ∷ [],
    )
    -- c: SETP 27, no EOM: nothing to take; .5 newline, EOM: ten bytes
    ∷ (
      message 2 7 0 (0x53 ∷ 0x45 ∷ 0x54 ∷ 0x50 ∷ 0x20 ∷ 0x32 ∷ 0x37 ∷ 0 ∷ []) ∷ take ∷ message 3 3 1 (0x2E ∷ 0x35 ∷ 0x0A ∷ 0 ∷ []) ∷ take ∷ [],
      numbered 0 ∷ numbered 16 ∷ numbered 0 ∷ gives (0x53 ∷ 0x45 ∷ 0x54 ∷ 0x50 ∷ 0x20 ∷ 0x32 ∷ 0x37 ∷ 0x2E ∷ 0x35 ∷ 0x0A ∷ []) ∷ [],
    )
    -- d: size 1,024 passes the header checks
    ∷ (message 1 1024 1 (replicate 52 7) ∷ [], numbered 0 ∷ [])
    -- e: 1,025 is 12; with 1,020 held, 4 passes, 5 is 12
    ∷ (message 1 1025 1 (replicate 52 7) ∷ [], numbered 12 ∷ [])
    ∷ (
      filled (message 2 4 1 (8 ∷ 8 ∷ 8 ∷ 8 ∷ []) ∷ take ∷ []),
      times 18 (numbered 0) (gives (replicate 1020 7 ++ (8 ∷ 8 ∷ 8 ∷ 8 ∷ [])) ∷ []),
    )
    ∷ (filled (message 2 5 1 (8 ∷ 8 ∷ 8 ∷ 8 ∷ 8 ∷ 0 ∷ 0 ∷ 0 ∷ []) ∷ take ∷ []), times 17 (numbered 0) (numbered 12 ∷ numbered 16 ∷ []))
    -- f: size 52 is complete in one packet of 64; size 53 needs 4 bytes more
    ∷ (message 1 52 1 (replicate 52 7) ∷ take ∷ [], numbered 0 ∷ gives (replicate 52 7) ∷ [])
    ∷ (
      message 1 53 1 (replicate 52 7) ∷ take ∷ out_packet (9 ∷ 0 ∷ 0 ∷ 0 ∷ []) ∷ take ∷ [],
      numbered 0 ∷ numbered 16 ∷ numbered 0 ∷ gives (replicate 52 7 ++ (9 ∷ [])) ∷ [],
    )
    -- g: size 100, one packet, matching abort: 01 and tag; check
    ∷ (
      message 5 100 1 (replicate 52 7) ∷ control 0xA2 1 5 0x01 2 ∷ control 0xA2 2 0 0x01 8 ∷ [],
      numbered 0 ∷ gives (0x01 ∷ 5 ∷ []) ∷ gives (0x01 ∷ 0x00 ∷ 0x00 ∷ 0x00 ∷ 0x34 ∷ 0x00 ∷ 0x00 ∷ 0x00 ∷ []) ∷ [],
    )
    -- g once more, two packets in: the count is of both
    ∷ (
      message 5 200 1 (replicate 52 7) ∷ out_packet (replicate 64 7) ∷ control 0xA2 1 5 0x01 2 ∷ control 0xA2 2 0 0x01 8 ∷ [],
      numbered 0 ∷ numbered 0 ∷ gives (0x01 ∷ 5 ∷ []) ∷ gives (0x01 ∷ 0x00 ∷ 0x00 ∷ 0x00 ∷ 0x74 ∷ 0x00 ∷ 0x00 ∷ 0x00 ∷ []) ∷ [],
    )
    -- h: reply 51: one packet of 63
    ∷ (
      offered (replicate 51 7) ∷ request 1 1000 ∷ poll ∷ poll ∷ [],
      numbered 0 ∷ numbered 0 ∷ gives (reply 51 1 (replicate 51 7)) ∷ numbered 5 ∷ [],
    )
    -- i: reply 52: 64, then empty
    ∷ (
      offered (replicate 52 7) ∷ request 1 1000 ∷ poll ∷ poll ∷ poll ∷ [],
      numbered 0 ∷ numbered 0 ∷ gives (reply 52 1 (replicate 52 7)) ∷ gives [] ∷ numbered 5 ∷ [],
    )
    -- j: reply 100, asked 30: 42 bytes, EOM off; asked 1,000: 64 and 18, EOM on
    ∷ (
      offered (replicate 30 7 ++ replicate 70 8) ∷ request 1 30 ∷ poll ∷ request 1 1000 ∷ poll ∷ poll ∷ [],
      numbered 0 ∷ numbered 0 ∷ gives (reply 30 0 (replicate 30 7)) ∷ numbered 0 ∷ gives (reply 70 1 (replicate 52 8)) ∷ gives (replicate 18 8) ∷ [],
    )
    ∷ []

-- ** the statement

-- SET_CONFIGURATION 1 on a unit of size 64 that was just powered on, then the calls
unfoldable pub played : Stepping → List Call → List Answer
played does calls = run does (power_on (record { packet = 64 })).unit (control 0x00 9 1 0 0 ∷ calls)

-- CASES: a unit that steps so answers every script of the table as the paper says
abbrev pub Cases : Stepping → Type 0
Cases does = map (λ (r : List Call × List Answer). played does r.0) cases ≡ map (λ (r : List Call × List Answer). numbered 0 ∷ r.1) cases
