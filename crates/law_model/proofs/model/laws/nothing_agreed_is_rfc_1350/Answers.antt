use Rattle.std.proofs.Common.{refl}
use Rattle.tftp_packet.specs.{no_options}
use Rattle.law_model.specs.Model.{two_bytes, ten_bytes}
use Rattle.law_model.proofs.ModelLemmas.Defaults.{default_blksize, default_windowsize}
use Rattle.law_model.proofs.model.laws.nothing_agreed_is_rfc_1350.Goals as goal

pub returns-clause-size : goal.returns-clause-size
returns-clause-size c = default_blksize two_bytes refl

pub returns-clause-window : goal.returns-clause-window
returns-clause-window c = default_windowsize two_bytes refl

pub returns-clause-refused : goal.returns-clause-refused
returns-clause-refused c = default_blksize (record ten_bytes { agreed = no_options }) refl
