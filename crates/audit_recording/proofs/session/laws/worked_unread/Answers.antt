use Rattle.std.proofs.Common.{◌≡◌, ◌∷◌, ℕ, Bool, true, false, List, [], Some, ap, slice_index_or, codes, inl, inr, refl, arith}
use Rattle.net_pcap.specs.{BeginsAsOne, NotARecording, start}
use Rattle.net_pcap.specs.Classic.{magic}
use Rattle.net_pcap.specs.declared.numbers.Order.{Order}
use Rattle.audit_recording.proofs.session.laws.worked_unread.Goals as goal

no_magic : (order : Order) (nano : Bool) → [] ≡ magic order nano → ⊥
no_magic Order.Big true e = cc
no_magic Order.Big false e = cc
no_magic Order.Little true e = cc
no_magic Order.Little false e = cc

-- the first byte, where there is one
abbrev first : List ℕ → ℕ
first bytes = slice_index_or bytes 0 0

no_word : (order : Order) (nano : Bool) → 116 ∷ 102 ∷ 116 ∷ 112 ∷ [] ≡ magic order nano → ⊥
no_word Order.Big true e = let same : 116 ≡ 161 = ap first e in omega (arith, same)
no_word Order.Big false e = let same : 116 ≡ 161 = ap first e in omega (arith, same)
no_word Order.Little true e = let same : 116 ≡ 77 = ap first e in omega (arith, same)
no_word Order.Little false e = let same : 116 ≡ 212 = ap first e in omega (arith, same)

empty_not : BeginsAsOne [] → ⊥
empty_not (inl section) = cc
empty_not (inr classic) = no_magic classic.0 classic.1 classic.2

text_not : BeginsAsOne (codes "tftp-capture 1\n") → ⊥
text_not (inl section) = let same : 116 ≡ 10 = ap first section in omega (arith, same)
text_not (inr classic) = no_word classic.0 classic.1 classic.2

pub returns-clause-empty : goal.returns-clause-empty
returns-clause-empty c = (
  Some [],
  record { kind = NotARecording; frame = 1 },
  record {
    taken = [];
    ahead = [];
    consumed = refl;
    tells = record {
      fails = record { good = []; part = []; mode = start; count = 0; are = refl; stands = record { pieces = []; are = refl; follows = (refl, refl); counted = refl }; rest = (refl, empty_not) };
      number = refl;
    };
    text = λ is. inl refl;
  },
  refl,
)

pub returns-clause-text : goal.returns-clause-text
returns-clause-text c = (
  Some [],
  record { kind = NotARecording; frame = 1 },
  record {
    taken = codes "tftp-capture 1\n";
    ahead = [];
    consumed = refl;
    tells = record {
      fails = record { good = []; part = codes "tftp-capture 1\n"; mode = start; count = 0; are = refl; stands = record { pieces = []; are = refl; follows = (refl, refl); counted = refl }; rest = (refl, text_not) };
      number = refl;
    };
    text = λ is. inl refl;
  },
  refl,
)
