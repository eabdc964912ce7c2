-- What is held until it is known who the server is, and is then given to its judge.
use Rattle.std.proofs.Common.{◌≡◌, ◌≤◌, ℕ, suc, true, false, cond, List, [], ◌∷◌, ◌++◌, length, Option, Some, None, refl, sym, ap, ◌∙◌, subst, append_assoc, append-nil, arith, map, reverse, filter, Result, Ok, Err, OnOk, Bool}
use Rattle.std.specs.declared.alloc.AllocError.{AllocError}
use Rattle.std.specs.List.{All}
use Rattle.tftp_packet.specs.{Rollover}
use Rattle.std.proofs.lemmas.List.{length-reverse, reverse-append, reverse-reverse}
use Rattle.std.proofs.lemmas.List.Elements.{All-append, All-from_recursion}
use Rattle.audit_flows.specs.Lines.{Placed, is_of}
use Rattle.audit_flows.specs.{Transfer}
use Rattle.audit_flows.specs.Transfers.{AreEndsAfter, is_settled, answered_by, asked_of, is_about, is_at_server, went_on_with, server_of}
use Rattle.audit_flows.specs.{TransferEnds}
use Rattle.audit_flows.proofs.TransfersLemmas.OwnDatagrams.{about_none, answered_kept, asked_kept, filter_kept, seen_none, settled_kept, went_on_kept, server_kept}
use Rattle.audit_views.specs.Views.{Naming, captured_at_server, server_header, HasJudgedBy, AreHeld, IsFed, IsGoingOnBy, IsServerAfterBy, IsViewAfter, IsViewAfterBy, Server, View, ViewedWith}
use Rattle.audit_views.specs.declared.views.held.Held.{Held}
use Rattle.audit_views.proofs.ViewsLemmas.Feeding.{server_apart}
use Rattle.audit_views.proofs.ViewsLemmas.Settling.{server_goes_on, settled_stays}

pub on_ok : {A B : Type 0} (r : Result (Unit {0}) AllocError) → (A → B) → OnOk r A → OnOk r B
on_ok (Ok u) f a = f a
on_ok (Err e) f a = tt

-- ---- the oldest of those that are held are given first

-- of this part of the whole so much was given, and the rest is held
pub record IsGivenSoFar (rollover : Option Rollover) (s : Server) (name : Naming) (whole part : List Placed) (held : List Held) : Type 0 where
  pub given : List Placed
  pub rest : List Placed
  pub are : reverse part ≡ given ++ rest
  pub left : AreHeld name held rest
  pub after : IsServerAfterBy rollover s name whole (reverse given)

pub given_none : (rollover : Option Rollover) (s : Server) (name : Naming) (whole part : List Placed) (held : List Held) → AreHeld name held (reverse part) → IsServerAfterBy rollover s name whole [] → IsGivenSoFar rollover s name whole part held
given_none rollover s name whole part held are after = record { given = []; rest = reverse part; are = refl; left = are; after = after }

pub given_one : (rollover : Option Rollover) (old new : Server) (name : Naming) (whole part : List Placed) (h : Held) (held : List Held)
    → ((p : Placed) (before : List Placed) → IsServerAfterBy rollover old name whole before → IsFed name p h → IsServerAfterBy rollover new name whole (p ∷ before))
    → IsGivenSoFar rollover old name whole part (h ∷ held) → IsGivenSoFar rollover new name whole part held
given_one rollover old new name whole part h held takes so = by so.rest so.are so.left where
  by : (rest : List Placed) → reverse part ≡ so.given ++ rest → AreHeld name (h ∷ held) rest → IsGivenSoFar rollover new name whole part held
  by [] are left = absurd left
  by (p ∷ rest) are left = record {
    given = so.given ++ p ∷ [];
    rest = rest;
    are = are ∙ sym (append_assoc so.given (p ∷ []) rest);
    left = left.1;
    after = subst (IsServerAfterBy rollover new name whole) (sym (reverse-append so.given (p ∷ []))) (takes p (reverse so.given) so.after left.0);
  }

pub given_all : (rollover : Option Rollover) (s : Server) (name : Naming) (whole part : List Placed) → IsGivenSoFar rollover s name whole part [] → IsServerAfterBy rollover s name whole part
given_all rollover s name whole part so = by so.rest so.are so.left where
  by : (rest : List Placed) → reverse part ≡ so.given ++ rest → AreHeld name [] rest → IsServerAfterBy rollover s name whole part
  by [] are left = subst (IsServerAfterBy rollover s name whole) (ap reverse (sym (are ∙ append-nil so.given)) ∙ reverse-reverse part) so.after
  by (p ∷ rest) are left = absurd left

-- ---- one more is held

pub held_more : (name : Naming) (held : List Held) (ps : List Placed) (h : Held) (p : Placed) → AreHeld name held ps → IsFed name p h → AreHeld name (held ++ h ∷ []) (ps ++ p ∷ [])
held_more name [] [] h p are fed = (fed, tt)
held_more name (g ∷ held) (q ∷ ps) h p are fed = (are.0, held_more name held ps h p are.1 fed)
held_more name _ _ h p are fed = absurd are

-- and its payload is no longer than that of another
pub held_short : {H : Type 0} (payload_of : H → List ℕ) (held : List H) (h : H) → All (λ (k : H). length (payload_of k) ≤ 65527) held → length (payload_of h) ≤ 65527
    → All (λ (k : H). length (payload_of k) ≤ 65527) (held ++ h ∷ [])
held_short payload_of held h short is = All-append (λ k. length (payload_of k) ≤ 65527) held (h ∷ []) short (All-from_recursion (λ k. length (payload_of k) ≤ 65527) (h ∷ []) (is, tt))

-- as the newest of the transfer's
pub held_newest : (n : ℕ) (name : Naming) (held : List Held) (older : List Placed) (h : Held) (p : Placed) → is_about n p ≡ true → AreHeld name held (reverse (filter (is_about n) older)) → IsFed name p h
    → AreHeld name (held ++ h ∷ []) (reverse (filter (is_about n) (p ∷ older)))
held_newest n name held older h p about are fed =
    subst (AreHeld name (held ++ h ∷ [])) (sym (ap (λ b. reverse (cond b (p ∷ filter (is_about n) older) (filter (is_about n) older))) about ∙ reverse-append (p ∷ []) (filter (is_about n) older)))
    (held_more name held (reverse (filter (is_about n) older)) h p are fed)

-- ---- the transfer's own datagrams are enough

pub own_alone : (rollover : Option Rollover) (s : Server) (name : Naming) (whole : List Placed) → IsServerAfterBy rollover s name whole (filter (is_about s.transfer.number) whole) → IsServerAfterBy rollover s name whole whole
own_alone rollover s name whole after =
    let x : Transfer = s.transfer in
    record {
      number = after.number;
      ends = after.ends;
      judged = subst (λ (l : List Placed). HasJudgedBy rollover s.end.judge (server_header x) (map (captured_at_server name x whole) l)) (filter_kept (is_at_server x.number whole) (is_about x.number) (seen_none x.number whole) whole) after.judged;
    }

-- ---- one that is not of the transfer

module _ (n : ℕ) (own : Placed → Bool) (none : (q : Placed) → own q ≡ false → is_of n q ≡ false) (p : Placed) (older : List Placed) (off : own p ≡ false) where
  pub same_own : filter own (p ∷ older) ≡ filter own older
  same_own = ap (λ b. cond b (p ∷ filter own older) (filter own older)) off

  asked_too : asked_of n older ≡ asked_of n (p ∷ older)
  asked_too = sym (asked_kept n own none older) ∙ ap (asked_of n) (sym same_own) ∙ asked_kept n own none (p ∷ older)

  answered_too : answered_by n older ≡ answered_by n (p ∷ older)
  answered_too = sym (answered_kept n own none older) ∙ ap (answered_by n) (sym same_own) ∙ answered_kept n own none (p ∷ older)

  went_on_too : went_on_with n older ≡ went_on_with n (p ∷ older)
  went_on_too = sym (went_on_kept n own none older) ∙ ap (went_on_with n) (sym same_own) ∙ went_on_kept n own none (p ∷ older)

  pub server_too : server_of n older ≡ server_of n (p ∷ older)
  server_too = sym (server_kept n own none older) ∙ ap (server_of n) (sym same_own) ∙ server_kept n own none (p ∷ older)

  pub settled_too : is_settled n older ≡ is_settled n (p ∷ older)
  settled_too = sym (settled_kept n own none older) ∙ ap (is_settled n) (sym same_own) ∙ settled_kept n own none (p ∷ older)

  pub ends_too : (t : TransferEnds) → t.number ≡ n → AreEndsAfter t older → AreEndsAfter t (p ∷ older)
  ends_too t is after = record {
    asked = after.asked ∙ ap (λ k. asked_of k older) is ∙ asked_too ∙ ap (λ k. asked_of k (p ∷ older)) (sym is);
    answered = after.answered ∙ ap (λ k. answered_by k older) is ∙ answered_too ∙ ap (λ k. answered_by k (p ∷ older)) (sym is);
    went_on = after.went_on ∙ ap (λ k. went_on_with k older) is ∙ went_on_too ∙ ap (λ k. went_on_with k (p ∷ older)) (sym is);
  }

pub view_passes : (rollover : Option Rollover) (v : View) (name : Naming) (p : Placed) (older : List Placed) → is_about v.transfer.number p ≡ false → IsViewAfterBy rollover v name older → IsViewAfterBy rollover v name (p ∷ older)
view_passes rollover v name p older off = by v.judge where
  by : (o : Option Server) → ViewedWith rollover o v name older → ViewedWith rollover o v name (p ∷ older)
  by None waits = record {
    own = waits.own;
    number = waits.number;
    ends = ends_too v.transfer.number (is_about v.transfer.number) (about_none v.transfer.number) p older off v.ends waits.number waits.ends;
    unsettled = sym (settled_too v.transfer.number (is_about v.transfer.number) (about_none v.transfer.number) p older off) ∙ waits.unsettled;
    held = subst (λ (l : List Placed). AreHeld name v.held (reverse l)) (sym (same_own v.transfer.number (is_about v.transfer.number) (about_none v.transfer.number) p older off)) waits.held;
  }
  by (Some s) goes = record {
    transfer = goes.transfer;
    settled = sym (settled_too v.transfer.number (is_about v.transfer.number) (about_none v.transfer.number) p older off) ∙ goes.settled;
    none = goes.none;
    after =
        let settled : is_settled s.transfer.number older ≡ true = ap (λ (x : Transfer). is_settled x.number older) goes.transfer ∙ goes.settled in
        let off_here : is_about s.transfer.number p ≡ false = ap (λ (x : Transfer). is_about x.number p) goes.transfer ∙ off in
        server_apart rollover s name (p ∷ older) p older (seen_none s.transfer.number (p ∷ older) p off_here) (server_goes_on rollover s name (p ∷ []) older older settled goes.after);
  }

pub passes_by : (v : View) (name : Naming) (p : Placed) (older : List Placed) → is_about v.transfer.number p ≡ false → IsViewAfter v name older → IsViewAfter v name (p ∷ older)
passes_by = view_passes None

-- ---- the judge goes on

pub goes_on_too : (rollover : Option Rollover) (old new : Server) (v w : View) (name : Naming) (p : Placed) (older : List Placed) → w.transfer ≡ v.transfer → w.held ≡ v.held → new.transfer ≡ old.transfer → IsGoingOnBy rollover old v name older → IsServerAfterBy rollover new name (p ∷ older) (p ∷ older) → IsGoingOnBy rollover new w name (p ∷ older)
goes_on_too rollover old new v w name p older of held same goes after = record {
  transfer = same ∙ goes.transfer ∙ sym of;
  settled = ap (λ (x : Transfer). is_settled x.number (p ∷ older)) of ∙ settled_stays v.transfer.number (p ∷ []) older goes.settled;
  none = held ∙ goes.none;
  after = after;
}

-- ---- what is held is the transfer's

as_many : (name : Naming) (held : List Held) (ps : List Placed) → AreHeld name held ps → length held ≡ length ps
as_many name [] [] are = refl
as_many name (h ∷ held) (p ∷ ps) are = ap suc (as_many name held ps are.1)
as_many name _ _ are = absurd are

pub held_own : (rollover : Option Rollover) (v : View) (name : Naming) (placed : List Placed) → IsViewAfterBy rollover v name placed → length v.held ≤ length (filter (is_about v.transfer.number) placed)
held_own rollover v name placed = by v.judge where
  by : (o : Option Server) → ViewedWith rollover o v name placed → length v.held ≤ length (filter (is_about v.transfer.number) placed)
  by None waits =
      let same : length v.held ≡ length (filter (is_about v.transfer.number) placed) = as_many name v.held (reverse (filter (is_about v.transfer.number) placed)) waits.held ∙ length-reverse (filter (is_about v.transfer.number) placed) in
      omega arith
  by (Some s) goes = let none : length v.held ≡ 0 = ap length goes.none in omega arith
