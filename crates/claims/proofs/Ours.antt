-- All that is claimed, of our port.
-- Assumes nothing.
use Rattle.port.specs.Step.{step}
use Rattle.port.proofs.Alignment.{alignment_ignored}
use Rattle.port.proofs.Clearing.{clear_reached, clear_reached_polled, clear_reached_halted, survive}
use Rattle.port.proofs.Replies.{replies_read}
use Rattle.port.proofs.Service.{status_told}
use Rattle.port.proofs.When.{rule_for_every}
use Rattle.claims.specs.Claims.{Claimed}
use Rattle.claims.proofs.Acted.{acts_only_on, acts_only_on_ever}
use Rattle.claims.proofs.Again.{command_after_clear}
use Rattle.claims.proofs.Arrives.{whole_command}
use Rattle.claims.proofs.Arriving.{reply_arrives, whole_reply}
use Rattle.claims.proofs.Cleared.{clean_after_fault, clean_after_any_fault}
use Rattle.claims.proofs.Ever.{whole_command_ever}
use Rattle.claims.proofs.Handed.{no_half_command, no_half_command_ever}
use Rattle.claims.proofs.Replies.{read_back}
use Rattle.claims.proofs.Service.{no_request_lost, status_comes, none_made_up}

pub ours : Claimed step
ours = record {
  no_half_command = no_half_command;
  no_half_command_ever = no_half_command_ever;
  acts_only_on = acts_only_on;
  acts_only_on_ever = acts_only_on_ever;
  whole_command = whole_command;
  whole_command_ever = whole_command_ever;
  clear_reached = clear_reached;
  clear_reached_polled = clear_reached_polled;
  clear_reached_halted = clear_reached_halted;
  survive = survive;
  clean_after_fault = clean_after_fault;
  clean_after_any_fault = clean_after_any_fault;
  command_after_clear = command_after_clear;
  rule_for_every = rule_for_every;
  alignment_ignored = alignment_ignored;
  replies_read = replies_read;
  read_back = read_back;
  reply_arrives = reply_arrives;
  whole_reply = whole_reply;
  status_told = status_told;
  no_request_lost = no_request_lost;
  status_comes = status_comes;
  none_made_up = none_made_up;
}
