-- What is so of the numbers that a state keeps stays so.
use Rattle.std.proofs.Common.{◌≡◌, ◌≢◌, ◌⊎◌, ℕ, ◌+◌, ◌<◌, ◌≤◌, max, Bool, List, length, Some, None, Option, zero, suc, inl, inr, refl, sym, subst, ap, ◌∙◌, arith}
use Rattle.std.proofs.lemmas.Bool.{cases_lt, cases_eq}
use Rattle.std.specs.FinMap as map
use Rattle.law_model.specs.Rules.{IsSender, IsReceiver}
use Rattle.law_model.specs.{Terms}
use Rattle.tftp_ends.specs.Blocks.{Held, nothing_held, IsHeldFront, Takes, Placing, Differs, Places}
use Rattle.tftp_ends.specs.{Sender, Receiver, IsHeld, HasLengthBySize, IsSound, IsSoundSender, IsSoundReceiver, HasRightLength}
use Rattle.tftp_ends.proofs.BlocksLemmas.Stores.{placed_is_held, others_are_kept}

-- ---- a block more

module _ (old new : Held) (k : ℕ) (bytes : List ℕ) (placing : Placing) (places : Places old new k bytes placing)
    (same : (other : List ℕ) → map.get old k ≡ Some other → other ≡ bytes) where
  not_other : placing ≢ Differs
  not_other is = let differs = subst (Places old new k bytes) is places in differs.0.2 (same differs.0.0 differs.0.1)

  pub held_there : map.get new k ≡ Some bytes
  held_there = placed_is_held old new k bytes placing places not_other

  -- one that is held was handed over, or was held before
  pub this_or_before : (n : ℕ) (other : List ℕ) → map.get new n ≡ Some other → ((n ≡ k) × (other ≡ bytes)) ⊎ (map.get old n ≡ Some other)
  this_or_before n other is = elim (cases_eq n k) [
    | inl number ↦
        let both : Some other ≡ Some bytes = sym is ∙ ap (map.get new) number ∙ held_there in
        inl (number, cc)
    | inr differs ↦ inr (sym (others_are_kept old new k bytes placing places n differs) ∙ is)
  ]

  pub still_held : (n : ℕ) → IsHeld old n → IsHeld new n
  still_held n held = elim (cases_eq n k) [
    | inl number ↦ (bytes, ap (map.get new) number ∙ held_there)
    | inr differs ↦ (held.0, others_are_kept old new k bytes placing places n differs ∙ held.1)
  ]

-- the length that an agreed size leaves a block
abbrev pub IsSized : Terms → ℕ → ℕ → Type 0
IsSized t k long = (size : ℕ) → t.size ≡ Some size → HasLengthBySize t.blksize size k long

pub sound_more : (t : Terms) (old new : Held) (k : ℕ) (bytes : List ℕ) (placing : Placing) → IsSound t old → 1 ≤ k → k ≤ t.greatest → IsSized t k (length bytes) → Places old new k bytes placing
    → ((other : List ℕ) → map.get old k ≡ Some other → other ≡ bytes) → IsSound t new
sound_more t old new k bytes placing sound one small sized places same = record {
  blksize = sound.blksize;
  windowsize = sound.windowsize;
  from_one = others_are_kept old new k bytes placing places 0 (λ none. absurd (omega (arith, none))) ∙ sound.from_one;
  numbers = λ n held. elim (this_or_before old new k bytes placing places same n held.0 held.1) [
    | inl this ↦ omega (arith, this.0)
    | inr before ↦ sound.numbers n (held.0, before)
  ];
  sized = λ size n other is held. elim (this_or_before old new k bytes placing places same n other held) [
    | inl this ↦ let there = sized size is in rw (this.0, this.1) there
    | inr before ↦ sound.sized size n other is before
  ];
}

pub sound_sent : (s : Sender) (new : Held) (k top : ℕ) (bytes : List ℕ) (placing : Placing) → IsSoundSender s → 1 ≤ k → k ≤ s.terms.greatest → IsSized s.terms k (length bytes)
    → ((n : ℕ) → 1 ≤ n → n < k → IsHeld s.held n) → Places s.held new k bytes placing → ((other : List ℕ) → map.get s.held k ≡ Some other → other ≡ bytes)
    → (top ≡ s.usable_top) ⊎ (top ≡ max s.usable_top k)
    → IsSoundSender (record { terms = s.terms; held = new; answered = s.answered; zero = s.zero; usable_top = top; stopped = s.stopped })
sound_sent s new k top bytes placing sound one small sized below places same either = record {
  sound = sound_more s.terms s.held new k bytes placing sound.sound one small sized places same;
  sends = sound.sends;
  in_order = λ n above held low most. elim (this_or_before s.held new k bytes placing places same above held.0 held.1) [
    | inl this ↦ elim (cases_lt n k) [
      | inl less ↦ still n (below n low less)
      | inr rest ↦ let is : k ≡ n = omega (arith, this.0) in (bytes, ap (map.get new) (sym is) ∙ held_there s.held new k bytes placing places same)
    ]
    | inr before ↦ still n (sound.in_order n above (held.0, before) low most)
  ];
  sent = elim either [
    | inl is ↦ kept is
    | inr is ↦ elim (cases_lt s.usable_top k) [
      | inl less ↦ let there : k ≡ top = omega (arith, is) in inr (subst (IsHeld new) there (bytes, held_there s.held new k bytes placing places same))
      | inr rest ↦ kept (omega (arith, is))
    ]
  ];
  answered = let was = sound.answered in elim either [ inl is ↦ omega (arith, is) | inr is ↦ omega (arith, is) ];
} where
  still : (n : ℕ) → IsHeld s.held n → IsHeld new n
  still n held = still_held s.held new k bytes placing places same n held

  kept : top ≡ s.usable_top → (top ≡ 0) ⊎ IsHeld new top
  kept is = elim sound.sent [ inl none ↦ inl (is ∙ none) | inr held ↦ inr (subst (IsHeld new) (sym is) (still s.usable_top held)) ]

pub sound_taken : (r : Receiver) (new : Held) (k : ℕ) (bytes : List ℕ) (placing : Placing) → IsSoundReceiver r → 1 ≤ k → k ≤ r.terms.greatest → IsSized r.terms k (length bytes) → Places r.held new k bytes placing
    → ((other : List ℕ) → map.get r.held k ≡ Some other → other ≡ bytes)
    → IsSoundReceiver (record { terms = r.terms; held = new; acked = r.acked; usable_acked = r.usable_acked; zero = r.zero; stopped = r.stopped })
sound_taken r new k bytes placing sound one small sized places same = record {
  sound = sound_more r.terms r.held new k bytes placing sound.sound one small sized places same;
  receives = sound.receives;
  taken = λ n low most. still_held r.held new k bytes placing places same n (sound.taken n low most);
  usable = sound.usable;
}

-- ---- at the start

pub sound_fresh : (t : Terms) (held : Held) → 8 ≤ t.blksize → 1 ≤ t.windowsize → held ≡ nothing_held → IsSound t held
sound_fresh t held blksize windowsize empty = record {
  blksize = blksize;
  windowsize = windowsize;
  from_one = none 0;
  numbers = λ k held. absurd (nothing k held);
  sized = λ size k bytes is held. absurd (nothing k (bytes, held));
} where
  none : (k : ℕ) → map.get held k ≡ None
  none k = ap (λ h. map.get h k) empty ∙ map.get-empty _ k

  nothing : (k : ℕ) → IsHeld held k → ⊥
  nothing k is = let no : None ≡ Some is.0 = sym (none k) ∙ is.1 in cc

-- ---- what a store takes

-- a number that is not held, and so a front below it
front_below : (held : Held) (n : ℕ) → (((k : ℕ) → 1 ≤ k → k ≤ n → IsHeld held k)) ⊎ ((front : ℕ) × IsHeldFront held front)
front_below held zero = inl (λ k one most. absurd (omega arith))
front_below held (suc n) = elim (front_below held n) [
  | inl all ↦ by (map.get held (n + 1)) refl all
  | inr there ↦ inr there
] where
  by : (o : Option (List ℕ)) → map.get held (n + 1) ≡ o → ((k : ℕ) → 1 ≤ k → k ≤ n → IsHeld held k) → (((k : ℕ) → 1 ≤ k → k ≤ suc n → IsHeld held k)) ⊎ ((front : ℕ) × IsHeldFront held front)
  by None is all = inr (n, record { below = all; next = is })
  by (Some bytes) is all = inl (λ k one most. elim (cases_lt k (n + 1)) [
    | inl less ↦ all k one (omega arith)
    | inr rest ↦ let same : n + 1 ≡ k = omega arith in (bytes, ap (map.get held) (sym same) ∙ is)
  ])

pub has_front : (t : Terms) (held : Held) → IsSound t held → (front : ℕ) × IsHeldFront held front
has_front t held sound = elim (front_below held (t.greatest + 1)) [
  | inl all ↦ let small = sound.numbers (t.greatest + 1) (all (t.greatest + 1) (omega arith) (omega arith)) in absurd (omega (arith, small))
  | inr there ↦ there
]

-- the front is not below what is held from block 1 on
pub front_reaches : (held : Held) (front n : ℕ) → IsHeldFront held front → ((k : ℕ) → 1 ≤ k → k ≤ n → IsHeld held k) → n ≤ front
front_reaches held front n is all = elim (cases_lt front n) [
  | inl less ↦ let there = all (front + 1) (omega arith) (omega arith) in let no : None ≡ Some there.0 = sym is.next ∙ there.1 in absurd (cc)
  | inr most ↦ most
]

pub takes_it : (t : Terms) (held : Held) (k long n : ℕ) → IsSound t held → HasRightLength t held k long → 1 ≤ k → ((i : ℕ) → 1 ≤ i → i ≤ n → IsHeld held i) → k ≤ n + t.windowsize → Takes t.blksize t.windowsize held k long
takes_it t held k long n sound right one all near =
    let front = has_front t held sound in
    let reaches = front_reaches held front.0 n front.1 all in
    record {
      from_one = one;
      within = (front.0, front.1, omega arith);
      fits = right.fits;
      before_last = right.before_last;
      is_last = right.is_last;
    }

pub fresh_sender : (s : Sender) → 8 ≤ s.terms.blksize → 1 ≤ s.terms.windowsize → IsSender s.terms → s.held ≡ nothing_held → s.answered ≡ 0 → s.usable_top ≡ 0 → IsSoundSender s
fresh_sender s blksize windowsize sends empty answered top =
    let sound = sound_fresh s.terms s.held blksize windowsize empty in
    record {
      sound = sound;
      sends = sends;
      in_order = λ k above held one most. let none : None ≡ Some held.0 = sym (ap (λ h. map.get h above) empty ∙ map.get-empty _ above) ∙ held.1 in absurd (cc);
      sent = inl top;
      answered = omega (arith, answered, top);
    }

pub fresh_receiver : (r : Receiver) → 8 ≤ r.terms.blksize → 1 ≤ r.terms.windowsize → IsReceiver r.terms → r.held ≡ nothing_held → r.acked ≡ 0 → r.usable_acked ≡ 0 → IsSoundReceiver r
fresh_receiver r blksize windowsize receives empty acked usable_acked = record {
  sound = sound_fresh r.terms r.held blksize windowsize empty;
  receives = receives;
  taken = λ k one most. absurd (omega (arith, acked));
  usable = omega (arith, acked, usable_acked);
}

-- an ACK of what has come
pub sound_acked : (r : Receiver) (j acked usable_acked : ℕ) (came : Bool) → IsSoundReceiver r → (front : ℕ) → IsHeldFront r.held front → j ≤ front → acked ≡ max r.acked j → (usable_acked ≡ r.usable_acked) ⊎ (usable_acked ≡ max r.usable_acked j)
    → IsSoundReceiver (record { terms = r.terms; held = r.held; acked = acked; usable_acked = usable_acked; zero = came; stopped = r.stopped })
sound_acked r j acked usable_acked came sound front up_to near is either = record {
  sound = sound.sound;
  receives = sound.receives;
  taken = λ k one most. elim (cases_lt r.acked k) [
    | inl less ↦ up_to.below k one (omega arith)
    | inr under ↦ sound.taken k one under
  ];
  usable = let was = sound.usable in elim either [ inl same ↦ omega arith | inr more ↦ omega arith ];
}

pub held_from_one : (t : Terms) (held : Held) → IsSound t held → (k : ℕ) → IsHeld held k → 1 ≤ k
held_from_one t held sound k there = elim (cases_eq k 0) [
  | inl is ↦ let no : None ≡ Some there.0 = sym (ap (map.get held) is ∙ sound.from_one) ∙ there.1 in absurd (cc)
  | inr some ↦ omega (arith, some)
]
