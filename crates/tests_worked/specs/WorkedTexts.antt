-- Capture texts that are accepted, refused and faulty, and what is written of them.
use Rattle.std.specs.Prelude.{ℕ, List, ◌++◌, codes}
use Rattle.tftp_capture.specs.{line}
use Rattle.tftp_commands.specs.{Output}
use Rattle.tftp_commands.specs.declared.status.Status.TheVariants as status

-- the read of one block, in which block 2 comes for block 1
abbrev pub overrun_text : List ℕ
overrun_text =
    line (codes "tftp-capture 1") ++ line (codes "end client") ++ line (codes "service 69") ++ line (codes "out 40000 69 000161006f6374657400") ++ line (codes "in 40000 41000 000300026869")
    ++ line (codes "out 40000 41000 00040001") ++ line (codes "total 3")

-- the read of one block, in a version that there is not
abbrev pub unversioned_text : List ℕ
unversioned_text =
    line (codes "tftp-capture 3") ++ line (codes "end client") ++ line (codes "service 69") ++ line (codes "out 40000 69 000161006f6374657400") ++ line (codes "in 40000 41000 000300016869")
    ++ line (codes "out 40000 41000 00040001") ++ line (codes "total 3")

-- the read in netascii of `abcdefg`, the end of a line, and `h`, as it is written by `normal`
abbrev pub lines_text : List ℕ
lines_text =
    line (codes "tftp-capture 1") ++ line (codes "end client") ++ line (codes "service 69") ++ line (codes "out 50000 69 000161006e6574617363696900626c6b73697a65003800") ++ line (codes "in 50000 50001 0006626c6b73697a65003800")
    ++ line (codes "out 50000 50001 00040000") ++ line (codes "in 50000 50001 00030001616263646566670d") ++ line (codes "out 50000 50001 00040001") ++ line (codes "in 50000 50001 000300020a68")
    ++ line (codes "out 50000 50001 00040002") ++ line (codes "total 7")

-- ---- what is written, with status 0, 1 or 2

abbrev pub with_success : List ℕ → Output
with_success bytes = record { bytes = bytes; status = status.Success }

abbrev pub with_refusal : List ℕ → Output
with_refusal bytes = record { bytes = bytes; status = status.Refused }

abbrev pub with_fault : List ℕ → Output
with_fault bytes = record { bytes = bytes; status = status.Fault }
