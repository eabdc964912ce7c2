-- The worked recording of a write that misses its block.
use Rattle.std.proofs.Common.{◌≡◌, ℕ, false, List, [], ◌∷◌, Any, codes, inl, inr, refl, sym, subst, arith, None}
use Rattle.tftp_packet.specs.{Message, Spells, OptionValue, Client, Server, Put, In}
use Rattle.tftp_packet.specs.Hosts.{Datagram}
use Rattle.law_model.specs.{EndRule, PortRule}
use Rattle.law_model.specs.Model.{request_of, blksize_of, block, Sent, Took, Req, Data, Ack, IsView, two_bytes_written, two_bytes_written_steps}
use Rattle.law_model.specs.Rules.{BlockPassed, IsFront, usable, transfer_of}
use Rattle.law_model.proofs.ModelLemmas.Defaults.{default_blksize}
use Rattle.law_model.proofs.ModelLemmas.Computed.{run_is}
use Rattle.law_model.proofs.ModelLemmas.Worked.{written_is_plan, written_one_block}
use Rattle.law_end.specs.{Main, Labelled, Division, TransferIds, HaveLabels, IsLawful, Fits, Answer, Answers, IsAnswer, Begins, NotAnswered, FirstAnswer, terms_after, Broken, Rule, from_server}
use Rattle.law_end.proofs.Spelled.{spelled_once}
use Rattle.law_end.proofs.Whole.NothingAgreed.{none_there, nothing_may_be_agreed_by}
use Rattle.law_end.proofs.Division.Divided.{any_first}
use Rattle.law_tap.specs.Losses.{nothing, kept, lost, IsLawfulWithLosses}
use Rattle.law_tap.specs.WorkedTap.{hi_passes}
use Rattle.law_tap.specs.WorkedLosses.{at_client, request_out, ack_out, at_server, write_in, zero_out, block_in, one_out, whole_write, write_without_block}
use Rattle.law_tap.proofs.WorkedLosses.{one_place, hi_says, ack_says}

-- ---- what the payloads say

write_says : Spells write_in.payload (Message.Request (request_of two_bytes_written))
write_says = (
  (omega arith, (omega arith, (omega arith, (omega arith, (omega arith, (omega arith, (omega arith, (omega arith, (omega arith, (omega arith, tt)))))))))),
  record {
    mode_text = codes "octet";
    pairs = [];
    bytes = refl;
    strung = (((λ e. omega arith), tt), (((λ e. omega arith), ((λ e. omega arith), ((λ e. omega arith), ((λ e. omega arith), ((λ e. omega arith), tt))))), tt));
    named = tt;
    apart = tt;
    mode = refl;
    options = refl;
    short = λ some. absurd (some refl);
  },
)

zero_says : Spells zero_out.payload (Message.Ack 0)
zero_says = ((omega arith, (omega arith, (omega arith, tt))), (0, 0, (omega arith, omega arith), refl))

block_says : Spells block_in.payload (Message.Data 1 (block (blksize_of two_bytes_written) two_bytes_written.file 1))
block_says = subst (λ b. Spells hi_passes.payload (Message.Data 1 (block b two_bytes_written.file 1))) (sym (default_blksize two_bytes_written refl)) hi_says

-- ---- the whole write is lawful

write_view : IsView two_bytes_written two_bytes_written.file Server (Sent (Ack 1) ∷ Took (Data 1) ∷ Sent (Ack 0) ∷ Took Req ∷ [])
write_view = (
  two_bytes_written_steps,
  run_is two_bytes_written two_bytes_written.file (record { agreed = false; windowsize = 1; blocks = 1 }) two_bytes_written_steps written_is_plan refl,
  refl,
)

write_fits : Fits None two_bytes_written two_bytes_written.file
write_fits = record {
  may_agree = nothing_may_be_agreed_by None (request_of two_bytes_written);
  reads = refl;
  size = λ mode size e. absurd (none_there (codes "tsize") (OptionValue.Num size) e);
  numbered = omega (arith, written_one_block);
}

ids : TransferIds
ids = record { own = 41000; peer = record { host = codes "10.0.0.2"; port = 40000 }; asked = [] }

abbrev begun : Division
begun = record { datagram = zero_out; label = Main (Sent (Ack 0)) } ∷ record { datagram = write_in; label = Main (Took Req) } ∷ []

abbrev done : Division
done = record { datagram = one_out; label = Main (Sent (Ack 1)) } ∷ record { datagram = block_in; label = Main (Took (Data 1)) } ∷ begun

begun_answers : Any (λ (p : Labelled). p.datagram.dir ≡ from_server Server) begun
begun_answers = any_first (λ (p : Labelled). p.datagram.dir ≡ from_server Server) (record { datagram = zero_out; label = Main (Sent (Ack 0)) }) (record { datagram = write_in; label = Main (Took Req) } ∷ []) refl

labels : HaveLabels at_server two_bytes_written two_bytes_written.file ids done
unfolding ids
labels = (
  record { dir = refl; client = refl; server = (refl, inl refl); spells = ack_says },
  (
    record { dir = refl; client = refl; server = (refl, inr begun_answers); spells = block_says },
    (
      record { dir = refl; client = refl; server = (refl, inl refl); spells = zero_says },
      (record { dir = refl; client = refl; server = (refl, λ named. absurd (cc)); spells = write_says }, tt),
    ),
  ),
)

write_lawful : IsLawful at_server whole_write
write_lawful = (
  two_bytes_written,
  two_bytes_written.file,
  record {
    fits = write_fits;
    view = Sent (Ack 1) ∷ Took (Data 1) ∷ Sent (Ack 0) ∷ Took Req ∷ [];
    run = write_view;
    dressed = record { ids = ids; division = done; whole = refl; main = refl; labels = labels };
  },
)

pub write_lossy : IsLawfulWithLosses at_server write_without_block
write_lossy = record {
  all = whole_write;
  lawful = write_lawful;
  left = kept write_in _ _ (kept zero_out _ _ (lost block_in _ _ (kept one_out _ _ nothing)));
}

-- ---- without the block, ACK 1 breaks a rule

no_answer : (answer : Answer) → Answers Put write_in answer → ⊥
no_answer answer (m, says, is) =
    subst (λ n. IsAnswer Put n answer) (spelled_once write_in.payload m (Message.Request (request_of two_bytes_written)) says write_says) is

no_block : BlockPassed In 1 (zero_out ∷ write_in ∷ []) → ⊥
no_block (bytes, inl zero) = let dir = zero.0 in absurd (cc)
no_block (bytes, inr (inl write)) =
    let same : Message.Data 1 bytes ≡ Message.Request (request_of two_bytes_written) = spelled_once write_in.payload (Message.Data 1 bytes) (Message.Request (request_of two_bytes_written)) write.1 write_says in absurd (cc)
no_block (bytes, inr (inr none)) = absurd none

no_front : IsFront (usable (transfer_of at_server (zero_out ∷ write_in ∷ []))) 0
no_front = record { below = λ k from to. absurd (omega (arith, from, to)); next = no_block }

pub ack_broken : Broken at_server (zero_out ∷ write_in ∷ []) one_out (Rule.Block EndRule.AckAhead)
ack_broken = record {
  message = Message.Ack 1;
  says = record { routed = refl; spells = ack_says };
  asked = request_of two_bytes_written;
  first = (write_in, refl, write_says);
  breaks = inr (inr (
    EndRule.AckAhead,
    refl,
    terms_after at_server (request_of two_bytes_written) Begins,
    inr (Begins, inr ((no_answer, tt), (Message.Ack 0, zero_says, refl)), refl),
    (0, inr (refl, no_front), omega arith),
  ));
}

pub port_broken : Broken at_client (request_out ∷ []) ack_out (Rule.Port PortRule.Wrong)
port_broken = refl
