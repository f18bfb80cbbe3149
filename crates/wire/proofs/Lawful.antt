-- What a header that is read says of its packet: the facts that the tests passed, for whoever goes on with the header.
-- Assumes nothing.
use Prim.Native.Nat.{ℕ, ◌≤◌, ◌%◌}
use mathlib.Core.Path.{◌≡◌, refl}
use mathlib.Core.List.{List}
use native.Mathlib.Omega.{arith}
use lib.ListN.{length}
use borrow.Author.Tests.{ltb-false, eqb-false}
use Rattle.rules.specs.declared.refusal.Refusal.TheVariants.{NotInFours, ShortHeader, BadTag, UnknownMsgId, Reserved}
use Rattle.rules.proofs.Choice.{pick_all, decide_all, neb_eq, none_left}
use Rattle.wire.specs.Header.{FOUR, HEADER, D0, bTag, attributes, TransferSize, message_rules, request_rules}
use Rattle.wire.specs.Header.{trigger_rules, reading_rules, read_message, read_request, read_trigger, read_header}
use Rattle.wire.specs.declared.types.Header.{Header}
use Rattle.wire.specs.declared.types.Header.TheVariants.{Message, Request, Trigger}
use Rattle.wire.specs.Header.{Read}
use Rattle.std.specs.Prelude.{Ok, Err}

abbrev pub Lawful : Header → Type 0
Lawful (Message tag size end) = (tag ≡ 0 → ⊥) × (size ≡ 0 → ⊥) × (end ≤ 1)
Lawful (Request tag size enabled term) = (tag ≡ 0 → ⊥) × (size ≡ 0 → ⊥) × (enabled ≤ 1) × (enabled ≡ 0 → term ≡ 0)
Lawful (Trigger tag) = tag ≡ 0 → ⊥

-- a faulty header promises nothing; a good one is lawful, in a packet of at least 12 bytes, in fours
abbrev pub Reads : List ℕ → Read → Type 0
Reads s (Err n) = Unit {0}
Reads s (Ok h) = (HEADER ≤ length s) × (length s % FOUR ≡ 0) × Lawful h

-- what holds of each fault and of each lawful header holds of what is read
module _ (s : List ℕ) (P : Read → Type 0) (reserved : P (Err Reserved)) (good : (h : Header) → Reads s (Ok h) → P (Ok h)) where
  module _ (long : HEADER ≤ length s) (fours : length s % FOUR ≡ 0) (tag : bTag s ≡ 0 → ⊥) where
    message_ways : P (read_message s)
    unfolding read_message
    message_ways =
        decide_all P Err (message_rules s) _ (reserved, (reserved, (reserved, (reserved, tt))))
        (λ n. good _ (long, fours, (tag, eqb-false (TransferSize s) 0 n.1.0, ltb-false D0 (attributes s) n.1.1.0)))

    request_ways : P (read_request s)
    unfolding read_request
    request_ways =
        decide_all P Err (request_rules s) _ (reserved, (reserved, (reserved, (reserved, tt))))
        (λ n.
        let size = eqb-false (TransferSize s) 0 n.1.0 in
        pick_all P _ _ _
        (λ _. good _ (long, fours, (tag, size, omega arith, λ _. refl)))
        (λ _. good _ (long, fours, (tag, size, omega arith, λ e. absurd (omega arith)))))

    trigger_ways : P (read_trigger s)
    unfolding read_trigger
    trigger_ways = decide_all P Err (trigger_rules s) _ (reserved, tt) (λ _. good _ (long, fours, tag))

  pub header_ways : P (Err NotInFours) → P (Err ShortHeader) → P (Err BadTag) → P (Err UnknownMsgId) → P (read_header s)
  unfolding read_header
  header_ways six seven eight nine =
      decide_all P Err (reading_rules s) _ (six, (seven, (eight, (nine, tt))))
      (λ n.
      let fours = neb_eq (length s % FOUR) 0 n.0 in
      let long = ltb-false (length s) HEADER n.1.0 in
      let tag = eqb-false (bTag s) 0 (none_left _ _ n.1.1.0) in
      pick_all P _ _ _ (λ _. message_ways long fours tag)
      (λ _. pick_all P _ _ _ (λ _. request_ways long fours tag) (λ _. trigger_ways long fours tag)))

pub header_lawful : (s : List ℕ) → Reads s (read_header s)
header_lawful s = header_ways s (Reads s) tt (λ h r. r) tt tt tt tt

pub good_lawful : (s : List ℕ) (h : Header) → read_header s ≡ Ok h → Reads s (Ok h)
good_lawful s h e = rw e at (header_lawful s)
