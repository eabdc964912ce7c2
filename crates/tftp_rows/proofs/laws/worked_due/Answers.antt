use Rattle.std.proofs.Common.{◌≡◌, ap, arith, inl, inr, refl}
use Rattle.audit_recording.specs.Session.Recording.{reached_by}
use Rattle.tftp_rows.proofs.laws.worked_due.Goals as goal

pub returns-clause-before : goal.returns-clause-before
returns-clause-before c t due = elim due [ inl over ↦ (let late = over.1.past.silent in omega (arith, late)) | inr none ↦ cc ]

pub returns-clause-at_once : goal.returns-clause-at_once
returns-clause-at_once c t history carried s last times due = elim due [
  | inl over ↦
      (let late = over.1.past.silent in
      let reached : reached_by s.times ≡ 1000000000 = ap reached_by times in omega (arith, late, last, reached))
  | inr none ↦ cc
]

pub returns-clause-soon : goal.returns-clause-soon
returns-clause-soon c t history carried s last times due = elim due [
  | inl over ↦
      (let late = over.1.past.silent in
      let reached : reached_by s.times ≡ 301000000000 = ap reached_by times in omega (arith, late, last, reached))
  | inr none ↦ cc
]

pub returns-clause-ended : goal.returns-clause-ended
returns-clause-ended c t history carried s = inr refl
