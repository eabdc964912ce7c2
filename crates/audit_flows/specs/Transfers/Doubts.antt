-- When a refusal of a transfer is no accusation. Lists have the newest first; a transfer is known by its number.
use Rattle.std.specs.Prelude.{ℕ, ◌==◌, ◌&&◌, ◌||◌, not, Bool, true, false, List, [], ◌∷◌, Option, Some, None}
use Rattle.audit_flows.specs.Lines.{Placed, is_of, agrees_late, begins_error, begins_unknown_id, comes_in, follows_strays, follows_unanswered, follows_unknown_id, goes_on_with_first, is_late, is_disordered, is_asked_again, is_sent_by_client, may_be_answer_of, may_be_earlier, rests_on_terms, says_first_word, says_unknown_id, speaks_first}
use Rattle.audit_flows.specs.declared.lines.place.Place.{Place}
use Rattle.audit_flows.specs.declared.lines.place.Place.TheVariants.{Beside}

-- it passed between a server and another than its client, whose request may not have been recorded
abbrev pub is_beside : Placed → Bool
is_beside p = by p.place where
  by : Place → Bool
  by (Beside x) = true
  by _ = false

-- some datagram passes the test, with those before it
abbrev pub some_time : (Placed → List Placed → Bool) → List Placed → Bool
some_time test [] = false
some_time test (p ∷ older) = test p older || some_time test older

-- some datagram of this transfer does
abbrev pub some_of : ℕ → (Placed → List Placed → Bool) → List Placed → Bool
some_of n test placed = some_time (λ p older. is_of n p && test p older) placed

abbrev pub is_it : ℕ → Option ℕ → Bool
is_it n None = false
is_it n (Some m) = m == n

-- what may be its first answer is another transfer's
abbrev pub is_answered_apart : ℕ → List Placed → Bool
is_answered_apart n placed = some_time (λ p older. is_it n (may_be_answer_of p older)) placed

-- doubts of the whole transfer
abbrev pub is_doubted : ℕ → List Placed → Bool
is_doubted n placed =
    some_of n is_disordered placed || some_of n is_asked_again placed || is_answered_apart n placed
    || some_of n follows_strays placed || some_of n follows_unanswered placed

-- Something had come to its client, which never went on with who sent it something first: that was no server of its, it may be.
abbrev pub is_led_astray : ℕ → List Placed → Placed → List Placed → Bool
is_led_astray n placed p older = some_of n comes_in (p ∷ older) && not (some_of n goes_on_with_first placed)

-- ERROR 5 answers what came from elsewhere, and ends nothing; and the network may turn it and a later ERROR round.
abbrev pub tells_strays : ℕ → Placed → List Placed → Bool
tells_strays n p older =
    begins_unknown_id p.datagram.payload || (begins_error p.datagram.payload && some_of n (λ q before. says_unknown_id q) older)

-- It may be late from an earlier transfer between the same two; or what they agreed on may be, and it may rest on that.
abbrev pub comes_of_earlier : ℕ → Placed → List Placed → Bool
comes_of_earlier n p older = may_be_earlier p older || (some_of n agrees_late (p ∷ older) && rests_on_terms p)

-- A refusal of the transfer at this datagram, after those before it, is doubtful wherever it was recorded, though the recording
-- began before the transfer.
abbrev pub is_doubtful_in_whole : ℕ → List Placed → Placed → List Placed → Bool
is_doubtful_in_whole n placed p older =
    is_doubted n placed || is_led_astray n placed p older || some_of n is_late (p ∷ older) || is_beside p
    || tells_strays n p older

-- It is so, or the recording began later, it may be: its client had spoken before anything came to it.
abbrev pub is_doubtful : ℕ → List Placed → Placed → List Placed → Bool
is_doubtful n placed p older = is_doubtful_in_whole n placed p older || some_of n says_first_word (p ∷ older)

-- At its client, by what came to it: what an end sends itself is not late there.
abbrev pub is_doubtful_at_client : ℕ → List Placed → Placed → List Placed → Bool
is_doubtful_at_client n placed p older = is_doubtful n placed p older || (not (is_sent_by_client p) && comes_of_earlier n p older)

-- At its server, whoever sent it, since a request may come late there; and where its client sent it and nothing had passed between
-- the two.
abbrev pub is_doubtful_at_server : ℕ → List Placed → Placed → List Placed → Bool
is_doubtful_at_server n placed p older =
    is_doubtful n placed p older || speaks_first p older || comes_of_earlier n p older

-- Between its ends, where a request may not have passed too.
abbrev pub is_doubtful_between : ℕ → List Placed → Placed → List Placed → Bool
is_doubtful_between n placed p older = is_doubtful n placed p older || comes_of_earlier n p older || follows_unknown_id p older
