-- The line of a verdict is words of ASCII and LF.
use Rattle.std.proofs.Common.{◌≡◌, ◌++◌, ◌∷◌, ◌+◌, ◌-◌, ◌<◌, ◌/◌, ◌%◌, ◌==◌, nat_lt, suc, zero, ℕ, Bool, true, false, List, [], Ok, Err, codes, decimal, if◌then◌else◌, length, length-append, take, refl, rules, arith}
use Rattle.std.specs.Fmt.{digits, digits_onto, digit_glyph}
use Rattle.std.specs.Str.{IsAscii}
use Rattle.std.proofs.lemmas.Str.Ascii.{IsAscii-nil}
use Rattle.std.proofs.Math.Seq.{take-append_seam}
use Rattle.tftp_packet.specs.{Side, Get, Put, Mode, Netascii, Octet, mode_name, PacketFault, Short, Opcode, AckLength, NoTerminator, OddOptions, EmptyOptionName, DuplicateOption, UnknownMode, MailMode, RequestTooLong}
use Rattle.tftp_nego.specs.{agreement_name}
use Rattle.tftp_nego.specs.declared.rule.AgreementRule.{AgreementRule}
use Rattle.tftp_nego.specs.declared.rule.AgreementRule.TheVariants.{OackEmpty, MulticastAgreed, OptionNotRequested, OptionOutsideProfile, OptionValue}
use Rattle.law_model.specs.Model.{Meaning}
use Rattle.law_model.specs.Rules.{end_name, port_name}
use Rattle.law_model.specs.declared.rules.rule.EndRule.{EndRule}
use Rattle.law_model.specs.declared.rules.rule.EndRule.TheVariants.{NotStarted, BlockZero, BeyondBlock65535, BlockLength, WindowOverrun, BlockSkipped, GoneBack, BlockChanged, AckAhead, AckZero}
use Rattle.law_model.specs.declared.rules.port_rule.PortRule.{PortRule}
use Rattle.law_model.specs.declared.rules.port_rule.PortRule.TheVariants.{Foreign, Wrong, BadAnswer}
use Rattle.law_end.specs.{AbortedBy, Local, Peer, Rule, blocks_of, number_of, rule_name}
use Rattle.law_end.specs.declared.rule.Rule.TheVariants as rule
use Rattle.tftp_judge.specs.{Refusal, Refused}
use Rattle.tftp_judge.specs.declared.refusal.Refusal.TheVariants as refusal
use Rattle.tftp_commands.specs.{checked, detail, packet_fault_name}
use Rattle.tftp_commands.specs.Names.{by_name, side_name}

-- each byte is of ASCII
abbrev pub Plain : List ℕ → Type 0
Plain [] = Unit {0}
Plain (b ∷ bs) = (b < 128) × Plain bs

abbrev pub is_plain : List ℕ → Bool
is_plain [] = true
is_plain (b ∷ bs) = if nat_lt b 128 then is_plain bs else false

plain_more : (b : ℕ) (bs : List ℕ) (small : Bool) → nat_lt b 128 ≡ small → (if small then is_plain bs else false) ≡ true → (b < 128) × (is_plain bs ≡ true)
plain_more b bs true e p = (grind arith, p)
plain_more b bs false e p = grind arith

pub plain : (bs : List ℕ) → is_plain bs ≡ true → Plain bs
plain [] p = tt
plain (b ∷ bs) p = let h = plain_more b bs (nat_lt b 128) refl p in (h.0, plain bs h.1)

pub joined : (xs ys : List ℕ) → Plain xs → Plain ys → Plain (xs ++ ys)
joined [] ys p q = q
joined (x ∷ xs) ys p q = (p.0, joined xs ys p.1 q)

pub ascii : (bs : List ℕ) → Plain bs → IsAscii bs
ascii [] p i = IsAscii-nil i
ascii (b ∷ bs) p zero = p.0
ascii (b ∷ bs) p (suc i) = ascii bs p.1 i

before_end : (words : List ℕ) → take (length (words ++ 10 ∷ []) - 1) (words ++ 10 ∷ []) ≡ words
before_end words = let e : length (words ++ 10 ∷ []) - 1 ≡ length words = grind (arith, length-append) in rw e (take-append_seam words (10 ∷ []))

-- what stands before the end of a line
pub words_before_end : (line words : List ℕ) → line ≡ words ++ 10 ∷ [] → take (length line - 1) line ≡ words
words_before_end line words p = rw p (before_end words)

-- ---- numbers

either : (b : Bool) (x y : List ℕ) → Plain x → Plain y → Plain (if b then x else y)
either true x y p q = p
either false x y p q = q

glyph : (b : Bool) (d : ℕ) → d < 10 → (if b then 48 + d else (if false then 55 + d else 87 + d)) < 128
glyph true d h = omega arith
glyph false d h = omega arith

onto : (k n : ℕ) (acc : List ℕ) → Plain acc → Plain (digits_onto k 10 false n acc)
onto zero n acc h = h
onto (suc k) n acc h =
    let small = glyph (nat_lt (n % 10) 10) (n % 10) (grind arith) in
    either (n / 10 == 0) (digit_glyph false (n % 10) ∷ acc) _ (small, h) (onto k (n / 10) (digit_glyph false (n % 10) ∷ acc) (small, h))

pub number : (n : ℕ) → Plain (decimal n)
unfolding digits
number n = onto 64 n [] tt

-- that as a record, of which antt finds the list
pub record IsPlain (bs : List ℕ) : Type 0 where
  pub each : Plain bs

pub literal : (bs : List ℕ) → is_plain bs ≡ true → IsPlain bs
literal bs p = record { each = plain bs p }

pub decimals : (n : ℕ) → IsPlain (decimal n)
decimals n = record { each = number n }

pub add : {xs ys : List ℕ} → IsPlain xs → IsPlain ys → IsPlain (xs ++ ys)
add {xs} {ys} p q = record { each = joined xs ys p.each q.each }

nothing : IsPlain []
nothing = record { each = tt }

-- ---- names

end_names : (rule : EndRule) → IsPlain (end_name rule)
end_names NotStarted = literal (end_name NotStarted) refl
end_names BlockZero = literal (end_name BlockZero) refl
end_names BeyondBlock65535 = literal (end_name BeyondBlock65535) refl
end_names BlockLength = literal (end_name BlockLength) refl
end_names WindowOverrun = literal (end_name WindowOverrun) refl
end_names BlockSkipped = literal (end_name BlockSkipped) refl
end_names GoneBack = literal (end_name GoneBack) refl
end_names BlockChanged = literal (end_name BlockChanged) refl
end_names AckAhead = literal (end_name AckAhead) refl
end_names AckZero = literal (end_name AckZero) refl

port_names : (rule : PortRule) → IsPlain (port_name rule)
port_names Foreign = literal (port_name Foreign) refl
port_names Wrong = literal (port_name Wrong) refl
port_names BadAnswer = literal (port_name BadAnswer) refl

agreement_names : (rule : AgreementRule) → IsPlain (agreement_name rule)
agreement_names OackEmpty = literal (agreement_name OackEmpty) refl
agreement_names MulticastAgreed = literal (agreement_name MulticastAgreed) refl
agreement_names OptionNotRequested = literal (agreement_name OptionNotRequested) refl
agreement_names OptionOutsideProfile = literal (agreement_name OptionOutsideProfile) refl
agreement_names OptionValue = literal (agreement_name OptionValue) refl

rule_names : (r : Rule) → IsPlain (rule_name r)
rule_names (rule.Port r) = port_names r
rule_names rule.NoRequest = literal (rule_name rule.NoRequest) refl
rule_names (rule.Malformed fault) = literal (rule_name (rule.Malformed fault)) refl
rule_names rule.WrongKind = literal (rule_name rule.WrongKind) refl
rule_names rule.AfterError = literal (rule_name rule.AfterError) refl
rule_names rule.RequestChanged = literal (rule_name rule.RequestChanged) refl
rule_names rule.RequestAfterStart = literal (rule_name rule.RequestAfterStart) refl
rule_names rule.ReplyChanged = literal (rule_name rule.ReplyChanged) refl
rule_names (rule.Agreement r) = agreement_names r
rule_names rule.OackChanged = literal (rule_name rule.OackChanged) refl
rule_names rule.OackAfterStart = literal (rule_name rule.OackAfterStart) refl
rule_names (rule.Block r) = end_names r

fault_names : (fault : PacketFault) → IsPlain (packet_fault_name fault)
fault_names Short = literal (packet_fault_name Short) refl
fault_names Opcode = literal (packet_fault_name Opcode) refl
fault_names AckLength = literal (packet_fault_name AckLength) refl
fault_names NoTerminator = literal (packet_fault_name NoTerminator) refl
fault_names OddOptions = literal (packet_fault_name OddOptions) refl
fault_names EmptyOptionName = literal (packet_fault_name EmptyOptionName) refl
fault_names DuplicateOption = literal (packet_fault_name DuplicateOption) refl
fault_names UnknownMode = literal (packet_fault_name UnknownMode) refl
fault_names MailMode = literal (packet_fault_name MailMode) refl
fault_names RequestTooLong = literal (packet_fault_name RequestTooLong) refl

details : (r : Rule) → IsPlain (detail r)
details (rule.Port r) = nothing
details rule.NoRequest = nothing
details (rule.Malformed fault) = add (literal (codes " ") refl) (fault_names fault)
details rule.WrongKind = nothing
details rule.AfterError = nothing
details rule.RequestChanged = nothing
details rule.RequestAfterStart = nothing
details rule.ReplyChanged = nothing
details (rule.Agreement r) = nothing
details rule.OackChanged = nothing
details rule.OackAfterStart = nothing
details (rule.Block r) = nothing

by_names : (by : AbortedBy) → IsPlain (by_name by)
by_names Local = literal (by_name Local) refl
by_names Peer = literal (by_name Peer) refl

-- ---- lines

-- the line is such words and LF
pub record IsLine (bytes : List ℕ) : Type 0 where
  pub words : List ℕ
  pub line : bytes ≡ words ++ 10 ∷ []
  pub is_plain : IsPlain words

pub unlawful : (number : ℕ) (r : Rule) → IsLine ((checked (Err (Refused (refusal.Unlawful number r)))).bytes)
unlawful n r = record {
  words = codes "refused datagram " ++ decimal n ++ codes " rule " ++ decimal (number_of r) ++ codes " " ++ rule_name r ++ detail r;
  line = search rules;
  is_plain = add (add (add (add (add (add (literal (codes "refused datagram ") refl) (decimals n)) (literal (codes " rule ") refl)) (decimals (number_of r))) (literal (codes " ") refl)) (rule_names r)) (details r);
}

pub aborted : (by : AbortedBy) (code : ℕ) → IsLine ((checked (Err (Refused (refusal.Aborted by code)))).bytes)
aborted by code = record {
  words = codes "aborted by " ++ by_name by ++ codes " code " ++ decimal code;
  line = search rules;
  is_plain = add (add (add (literal (codes "aborted by ") refl) (by_names by)) (literal (codes " code ") refl)) (decimals code);
}

pub refused : (r : Refusal) → IsLine ((checked (Err (Refused r))).bytes)
refused (refusal.Unlawful n r) = unlawful n r
refused (refusal.Aborted by code) = aborted by code
refused (refusal.Incomplete count) = record {
  words = codes "incomplete after " ++ decimal count;
  line = search rules;
  is_plain = add (literal (codes "incomplete after ") refl) (decimals count);
}
refused refusal.NormalTooLong = record { words = codes "too long when normal"; line = refl; is_plain = literal (codes "too long when normal") refl }
refused (refusal.Memory count) = record { words = codes "fault memory"; line = refl; is_plain = literal (codes "fault memory") refl }

side_names : (side : Side) → IsPlain (side_name side)
side_names Get = literal (side_name Get) refl
side_names Put = literal (side_name Put) refl

mode_names : (mode : Mode) → IsPlain (mode_name mode)
mode_names Netascii = literal (mode_name Netascii) refl
mode_names Octet = literal (mode_name Octet) refl

pub accepted : (m : Meaning) → IsLine ((checked (Ok m)).bytes)
accepted m = record {
  words = codes "accepted " ++ side_name m.side ++ codes " " ++ mode_name m.mode ++ codes " blocks " ++ decimal (blocks_of m) ++ codes " bytes " ++ decimal (length m.file);
  line = search rules;
  is_plain = add (add (add (add (add (add (add (literal (codes "accepted ") refl) (side_names m.side)) (literal (codes " ") refl)) (mode_names m.mode)) (literal (codes " blocks ") refl)) (decimals (blocks_of m))) (literal (codes " bytes ") refl)) (decimals (length m.file));
}
