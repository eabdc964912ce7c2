-- What is told of a file on standard error, as exact text.
use Rattle.std.specs.Prelude.{◌≡◌, ◌==◌, ◌++◌, ℕ, List, [], ◌∷◌, Option, Some, None, Result, Ok, Err, codes, decimal, flat_map, if◌then◌else◌}
use Rattle.std.specs.Io.KnownBytes.{Appends}
use Rattle.audit_recording.specs.Session.Lines.{lines_told, ports_text}
use Rattle.audit_recording.specs.Session.Noted.{Noticed}
use Rattle.audit_recording.specs.Session.Strays.{asked_ports}
use Rattle.audit_recording.specs.declared.session.notes.Notes.{Notes}

-- ---- a line behind the names of the program and the file

-- as `tftp-transfers: one.pcap: 2 datagrams left out as copies (frames 3, 8)`
abbrev pub remark_text : List ℕ → List ℕ → List ℕ → List ℕ
remark_text program file words = program ++ (codes ": " ++ (file ++ (codes ": " ++ (words ++ codes "\n"))))

-- each of these in a line
abbrev pub remarks_text : List ℕ → List ℕ → List (List ℕ) → List ℕ
remarks_text program file lines = flat_map (remark_text program file) lines

-- ---- of a recording as a whole

abbrev pub ports_line : List ℕ → List ℕ
ports_line ports = codes "what looks like a request went to port" ++ (ports ++ codes ": name the port by --service")

-- at which ports something looks like a request, if anything does
abbrev pub ports_lines : Option (List ℕ) → List (List ℕ)
ports_lines None = []
ports_lines (Some ports) = ports_line ports ∷ []

-- of a recording with no transfer: at which ports one may be, and that there is none
abbrev pub none_lines : Option (List ℕ) → List (List ℕ)
none_lines ports = ports_lines ports ++ codes "no request passed, so there is no transfer" ∷ []

-- What was noticed, each kind once; and behind it, where no transfer was told, that. Of what was kept the packets that the recorder lost and the
-- fault count alone.
abbrev pub rest_lines : Notes → Noticed → ℕ → List (List ℕ)
rest_lines notes s told = lines_told s notes.dropped notes.fault ++ (if told == 0 then none_lines (ports_text (asked_ports s.strays)) else [])

-- ---- of a transfer without a text

-- that the text of the transfer with this number is not written, since datagrams of it may be missing
abbrev pub lacking_line : ℕ → List ℕ
lacking_line number = codes "transfer " ++ (decimal number ++ codes ": nothing is written, since the recording is not whole")

-- ---- what a call says

-- some of the text, from its start, came behind what stood there
abbrev pub SaysPart : Option (List ℕ) → Option (List ℕ) → List ℕ → Type 0
SaysPart before after text = (said unsaid : List ℕ) × (text ≡ said ++ unsaid) × Appends before after said

-- the text came behind what stood there, or where the call fails some of it, from its start
abbrev pub Says : {A E : Type 0} → Option (List ℕ) → Option (List ℕ) → Result A E → List ℕ → Type 0
Says before after (Ok _) text = Appends before after text
Says before after (Err e) text = SaysPart before after text
