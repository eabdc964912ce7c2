-- The capture texts that are wanted of a recording. Lists have the newest first; a transfer is known by its number.
use Rattle.std.specs.Prelude.{◌≡◌, ◌≢◌, ◌⊎◌, ◌<◌, ◌==◌, ◌≤◌, ◌-◌, ◌/◌, ◌%◌, ◌++◌, ◌∷◌, ℕ, Bool, true, false, List, [], Option, Some, None, IsSome, Result, Err, codes, decimal, filter, length, map, replicate, if◌then◌else◌}
use Rattle.std.specs.BTreeMap.{get}
use Rattle.std.specs.Ordering.{nat_cmp}
use Rattle.tftp_packet.specs.{End, Client, Server}
use Rattle.net_pcap.specs.{PcapFault}
use Rattle.tftp_capture.specs.{HasNoEnd}
use Rattle.audit_flows.specs.Lines.{Placed, opens, same_address}
use Rattle.audit_flows.specs.{Endpoint, Opens, Place, Transfer}
use Rattle.audit_flows.specs.Transfers.{opened_it, server_of}
use Rattle.audit_views.specs.Parties.{host_name}
use Rattle.audit_views.specs.Texts.{AreNotesAfter, IsComment, Notes, Worded, text_at}
use Rattle.audit_recording.specs.Blame.Frames.{Carried, Framed, framed, whole_of}
use Rattle.audit_recording.specs.Blame.Kept.{IsTrailOf}
use Rattle.audit_recording.specs.Between.{server_or_asked}
use Rattle.audit_recording.specs.Judges.{opened}
use Rattle.audit_recording.specs.Losses.Noted.{IsAsked, IsMissingOf, MayMiss}
use Rattle.audit_recording.specs.Session.Lines.{end_text}
use Rattle.audit_recording.specs.Session.Noted.{Noticed, stretch_of}
use Rattle.audit_recording.specs.Session.Plain.{plain}
use Rattle.audit_recording.specs.declared.session.fault.TextFault.{TextFault}
use Rattle.audit_recording.specs.declared.session.fault.TextFault.TheVariants.{LongName, NoTransfer, NotWhole}
use Rattle.audit_recording.specs.declared.session.text.TextAt.{TextAt}
use Rattle.audit_recording.specs.declared.blame.trail.Trail.{Trail}
use Rattle.audit_recording.specs.declared.judges.judging.Judging.{Judging}
use Rattle.audit_recording.specs.declared.session.kept.Kept.{Kept}
use Rattle.audit_recording.specs.declared.session.kept.Wanted.{Wanted}
use Rattle.audit_recording.specs.declared.session.kept.Wanted.TheVariants.{All, Nothing, One}

-- ---- what is said of a datagram

-- nanoseconds, fewer than a second has, in nine digits
abbrev pub fraction_text : ℕ → List ℕ
fraction_text nanoseconds = replicate (9 - length (decimal nanoseconds)) 48 ++ decimal nanoseconds

-- a time in seconds since 1970, where the recording tells it
abbrev pub time_text : Option ℕ → List ℕ
time_text None = []
time_text (Some time) = codes " time " ++ (decimal (time / 1000000000) ++ (codes "." ++ fraction_text (time % 1000000000)))

-- words that are no line's end, and few enough for a comment
abbrev pub IsShort : List ℕ → Type 0
IsShort words = HasNoEnd words × (length words ≤ 60)

-- as `frame 12 time 1700000000.050000000`
abbrev pub frame_text : ℕ → Option ℕ → List ℕ
frame_text frame time = codes "frame " ++ (decimal frame ++ time_text time)

-- a datagram, noted with the frame that it came with and this one's time
abbrev pub worded_of : Framed → Worded
worded_of f = record { placed = f.placed; words = frame_text f.carried.frame f.carried.time }

abbrev pub worded_in : List ℕ → List Carried → List Worded
worded_in named carried = map worded_of (framed named carried)

-- ---- which transfers

-- how many were opened
abbrev pub opened_count : List Placed → ℕ
opened_count all = length (filter opens all)

-- the how manieth the transfer with this number was, from 1; 0 where none has it
abbrev pub ordinal : ℕ → List Placed → ℕ
ordinal n [] = 0
ordinal n (p ∷ older) = if opened_it n p then opened_count (p ∷ older) else ordinal n older

-- the number of the one that is opened there
abbrev pub opened_there : Place → List ℕ
opened_there (Opens x) = x.number ∷ []
opened_there _ = []

-- the numbers of all of them, the first one first
abbrev pub opened_numbers : List Placed → List ℕ
opened_numbers [] = []
opened_numbers (p ∷ older) = opened_numbers older ++ opened_there p.place

abbrev pub is_wanted : Wanted → ℕ → Bool
is_wanted Nothing place = false
is_wanted (One number) place = number == place
is_wanted All place = true

-- ---- what is kept

-- What is kept of the transfer with this number: a text that was fed `fed`, or nothing, where no request opened it or its text is not wanted.
abbrev pub IsTextKept : Wanted → List Placed → List Worded → ℕ → Option Notes → Type 0
IsTextKept wanted all fed n None = (opened n all ≡ None) ⊎ (is_wanted wanted (ordinal n all) ≡ false)
IsTextKept wanted all fed n (Some t) = (opened n all ≡ Some t.transfer) × (is_wanted wanted (ordinal n all) ≡ true) × AreNotesAfter t host_name fed

-- Each transfer that was opened and is wanted has its text, which was fed all datagrams, each with its frame and time; and no other has one.
pub record AreTextsKept (kept : Kept) (named : List ℕ) (carried : List Carried) : Type 0 where
  pub opened : kept.opened ≡ opened_count (whole_of named carried)
  pub texts : (n : ℕ) → IsTextKept kept.wanted (whole_of named carried) (worded_in named carried) n (get nat_cmp kept.texts n)

-- The newest datagram was not yet fed to one; but where it opens a transfer, that one has its text.
pub record AreTextsBegun (kept : Kept) (named : List ℕ) (c : Carried) (older : List Carried) : Type 0 where
  pub opened : kept.opened ≡ opened_count (whole_of named (c ∷ older))
  pub texts : (n : ℕ) → IsTextKept kept.wanted (whole_of named (c ∷ older)) (worded_in named older) n (get nat_cmp kept.texts n)

-- ---- the heading of a text

abbrev pub end_word : End → List ℕ
end_word Client = codes "client"
end_word Server = codes "server"

-- as `transfer 2 of 'boot.pcap', at the client; client 192.0.2.7:40000, server 192.0.2.1:41000`
abbrev pub heading_text : ℕ → List ℕ → End → Endpoint → Endpoint → List ℕ
heading_text number file end client server =
    codes "transfer " ++ (decimal number ++ (codes " of '" ++ (plain file ++ (codes "', at the " ++ (end_word end
    ++ (codes "; client " ++ (end_text client ++ (codes ", server " ++ end_text server))))))))

-- with whom the client went on, or who answered it first, or else whom it asked
abbrev pub server_in : Transfer → List ℕ → List Carried → Endpoint
server_in x named carried = server_or_asked x (server_of x.number (whole_of named carried))

-- The text at an end of this transfer, as the one with that number in a file: its heading, and the datagrams that the end saw, each behind its
-- frame and time.
abbrev pub text_of : ℕ → End → List ℕ → Transfer → List ℕ → List Carried → List ℕ
text_of number end file x named carried = text_at end host_name x (heading_text number file end x.client (server_in x named carried)) (worded_in named carried)

-- It is the text of the transfer with this number that a request opened: it was fed all datagrams, each with its frame and time; and its heading
-- says which one it is in the list, in which file, at which end, and who its ends are.
pub record IsTextAt (found : TextAt) (named : List ℕ) (carried : List Carried) (key number : ℕ) (end : End) (file : List ℕ) : Type 0 where
  pub opened : opened key (whole_of named carried) ≡ Some found.text.now.transfer
  pub fed : AreNotesAfter found.text.now host_name (worded_in named carried)
  pub heading : found.heading ≡ heading_text number file end found.text.now.transfer.client (server_in found.text.now.transfer named carried)

-- ---- whether datagrams of it may be missing

-- It was read to its end, and what is missing of its client's host passed after it.
abbrev pub IsWholeBy : Option PcapFault → Trail → Noticed → Type 0
IsWholeBy fault t s = (fault ≡ None) × ((n time : ℕ) → IsMissingOf t.transfer.client.address s.events n time → t.last < n)

-- so it is with what was kept of this transfer
abbrev pub IsWhole : Option PcapFault → Transfer → List ℕ → List Carried → Noticed → Type 0
IsWhole fault x named carried s = (t : Trail) × ((judging : Judging) × IsTrailOf t judging x named carried) × IsWholeBy fault t s

-- The reading stopped at a fault, or what may be of the transfer is missing, where its request is noticed.
abbrev pub LacksBy : Option PcapFault → Trail → Noticed → Type 0
LacksBy fault t s = IsAsked (λ host. same_address host t.transfer.client.address) t.first s.events → IsSome fault ⊎ MayMiss (stretch_of t) s.events

-- ---- why there is none

-- no transfer has this number, and there are so many; or memory ran out
abbrev pub IsNoneNumbered : ℕ → List Placed → TextFault → Type 0
IsNoneNumbered number all (NoTransfer n count) = (n ≡ number) × (count ≡ opened_count all) × ((key : ℕ) → IsSome (opened key all) → ordinal key all ≢ number)
IsNoneNumbered number all (TextFault.Alloc error) = Unit {0}
IsNoneNumbered number all _ = ⊥

-- It is what was kept of the transfer with this number in the list.
abbrev pub IsNumbered : Trail → ℕ → List ℕ → List Carried → Type 0
IsNumbered t number named carried =
    (opened t.transfer.number (whole_of named carried) ≡ Some t.transfer) × (ordinal t.transfer.number (whole_of named carried) ≡ number)
    × ((judging : Judging) × IsTrailOf t judging t.transfer named carried)

-- It is why the transfer with this number has no text: there is none; datagrams of it may be missing; its heading is too long; or memory ran out.
abbrev pub IsTextFault : Option PcapFault → List ℕ → List Carried → Noticed → ℕ → End → List ℕ → TextFault → Type 0
IsTextFault fault named carried s number end file (NoTransfer n count) = IsNoneNumbered number (whole_of named carried) (NoTransfer n count)
IsTextFault fault named carried s number end file NotWhole = (t : Trail) × IsNumbered t number named carried × LacksBy fault t s
IsTextFault fault named carried s number end file LongName =
    (t : Trail) × IsNumbered t number named carried
    × (IsComment (heading_text number file end t.transfer.client (server_in t.transfer named carried)) → ⊥)
IsTextFault fault named carried s number end file (TextFault.Alloc error) = Unit {0}

-- no heading is made because its words are too many, or memory ran out
abbrev pub IsHeadingFault : {A : Type 0} → Result A TextFault → Type 0
IsHeadingFault result = ((number count : ℕ) → result ≢ Err (NoTransfer number count)) × (result ≢ Err NotWhole)
