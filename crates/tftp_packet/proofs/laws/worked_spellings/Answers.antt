use Rattle.std.proofs.Common.{[], refl, rules, codes}
use Rattle.tftp_packet.proofs.laws.worked_spellings.Goals as goal

pub returns-clause-request : goal.returns-clause-request
returns-clause-request c = (
  search rules,
  record {
    mode_text = codes "octet";
    pairs = [];
    bytes = refl;
    strung = search rules;
    named = tt;
    apart = tt;
    mode = refl;
    options = refl;
    short = λ some. absurd (some refl);
  },
)
