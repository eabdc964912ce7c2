-- Captures that mean nothing, since their client has not acknowledged a last block; and ERRORs, or none, in them.
use Rattle.std.proofs.Common.{◌≡◌, ℕ, ◌<◌, ◌==◌, ◌||◌, not, nat_le, Bool, true, List, [], ◌∷◌, length, Some, None, inl, inr, refl, sym, subst, ◌∙◌, arith}
use Rattle.std.proofs.lemmas.Bool.{and_parts, or_cases, leb-true, eq-eqb, false≢true}
use Rattle.tftp_packet.specs.{Message, Spells}
use Rattle.tftp_packet.specs.Hosts.{Datagram, Header}
use Rattle.tftp_packet.specs.{Dir, In, Out}
use Rattle.law_model.specs.Model.{Meaning}
use Rattle.law_model.specs.Rules.{transfer_of, Passed, IsReceiver}
use Rattle.law_model.specs.{Terms}
use Rattle.law_end.specs.{IsErrorBy, NoErrorPassed, AbortedBy, IsWhole, Meant}
use Rattle.law_end.proofs.Spelled.{spelled_once}
use Rattle.tests_worked.proofs.Payloads.{Spelled, datagrams, AllSpelled}
use Rattle.tests_worked.proofs.Passing.{main_of, every, every_is, terms_are}
use Rattle.tests_worked.proofs.Chains.{Start}
use Rattle.tests_worked.proofs.RuleTests.{not_error}

-- what spells something else is no ERROR
no_error_by : (d : Datagram) (m : Message) → Spells d.payload m → not_error m ≡ true → (by : AbortedBy) (code : ℕ) → IsErrorBy d by code → ⊥
no_error_by d m s t by code e = false≢true (subst (λ x. not_error x ≡ true) (spelled_once d.payload m (Message.Error code e.1) s e.2) t)

abbrev pub none_stops : List Spelled → Bool
none_stops es = every (λ dir m. not_error m) es

pub no_errors : (es : List Spelled) → AllSpelled es → none_stops es ≡ true → NoErrorPassed (datagrams es)
no_errors [] s t = tt
no_errors (e ∷ es) s t = let parts = and_parts (not_error e.1) (none_stops es) t in (no_error_by e.0 e.1 s.0 parts.0, no_errors es s.1 parts.1)

abbrev pub not_acked : ℕ → Dir → Message → Bool
not_acked last Out (Message.Ack j) = not (j == last)
not_acked last _ _ = true

-- a block shorter than a block was not acknowledged
abbrev pub goes_on : ℕ → List Spelled → Dir → Message → Bool
goes_on b ts dir (Message.Data k bytes) = nat_le b (length bytes) || every (not_acked k) ts
goes_on b ts dir _ = true

module _ (h : Header) (b : Start h) (t : Terms) (is : b.known [] ≡ Some t) (none : t.size ≡ None) (receives : IsReceiver t)
    (test : every (goes_on t.blksize (main_of h b.es)) (main_of h b.es) ≡ true) where
  not_last : (dir : Dir) (last : ℕ) (bytes : List ℕ) → Passed dir (Message.Data last bytes) (transfer_of h (datagrams b.es)) → length bytes < t.blksize
      → Passed Out (Message.Ack last) (transfer_of h (datagrams b.es)) → ⊥
  not_last dir last bytes p short acked =
      elim (or_cases (nat_le t.blksize (length bytes)) (every (not_acked last) (main_of h b.es)) (every_is h b.es (goes_on t.blksize (main_of h b.es)) dir (Message.Data last bytes) b.spelled test p)) [
        | inl whole ↦ let most = leb-true t.blksize (length bytes) whole in omega arith
        | inr never ↦ false≢true (subst (λ (x : Bool). not x ≡ true) (eq-eqb last last refl) (every_is h b.es (not_acked last) Out (Message.Ack last) b.spelled never acked))
      ]

  no_size : (size : ℕ) → t.size ≡ Some size → ⊥
  no_size size sized = let both : None ≡ Some size = sym none ∙ sized in absurd (cc)

  not_whole : (last : ℕ) → IsWhole t (transfer_of h (datagrams b.es)) last → ⊥
  not_whole last whole = elim whole.known [
    | inl short ↦ elim short.1 [ inl came ↦ not_last In last short.0 came short.2 (whole.acknowledged receives) | inr went ↦ not_last Out last short.0 went short.2 (whole.acknowledged receives) ]
    | inr sized ↦ no_size sized.0 sized.1
  ]

  same : (a b : Terms) → Some a ≡ Some b → a ≡ b
  same a b e = cc

  pub means_nothing : (m : Meaning) → Meant h (datagrams b.es) m → ⊥
  means_nothing m meant =
      let e = same meant.ended.terms t (sym (terms_are h b.es meant.ended.terms b.spelled meant.ended.known) ∙ sym (b.knows []) ∙ is) in
      not_whole meant.ended.last (subst (λ u. IsWhole u (transfer_of h (datagrams b.es)) meant.ended.last) e meant.ended.whole)
