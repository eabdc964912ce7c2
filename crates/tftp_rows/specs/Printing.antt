-- What is printed of rows.
use Rattle.std.specs.Prelude.{◌≡◌, ◌⊎◌, ◌||◌, ℕ, Bool, true, false, List, [], ◌∷◌, ◌++◌, Option, Result, Ok, Err, codes}
use Rattle.std.specs.Io.KnownBytes.{Appends}
use Rattle.tftp_rows.specs.Members.{json_text}
use Rattle.tftp_rows.specs.Objects.{row_json}
use Rattle.tftp_rows.specs.Rows.{head_text, row_text}
use Rattle.tftp_rows.specs.declared.printing.Form.{Form}
use Rattle.tftp_rows.specs.declared.printing.Form.TheVariants.{Words, Json}
use Rattle.tftp_rows.specs.declared.printing.RowPrinter.{RowPrinter}
use Rattle.tftp_rows.specs.declared.row.VerdictRow.{VerdictRow}

-- ---- a row of verdicts

-- the line of a row, without its end: in words its text, else its JSON (RFC 8259)
abbrev pub line_text : Form → VerdictRow → List ℕ
line_text (Words width) row = row_text width row
line_text Json row = json_text (row_json row)

-- the heads, where words are printed and no heads stand before
abbrev pub heads : Form → Bool → List ℕ
heads (Words width) false = head_text width
heads _ _ = []

-- the line of a row with its end, behind the heads where none stand before
abbrev pub verdict_lines : Form → Bool → VerdictRow → List ℕ
verdict_lines form headed row = heads form headed ++ (line_text form row ++ codes "\n")

-- ---- rows one after another, of which `lines` says the lines of each one, by whether heads stand before

-- the lines of these rows, in this order
abbrev pub all_lines : {R : Type 0} → (Bool → R → List ℕ) → Bool → List R → List ℕ
all_lines lines headed [] = []
all_lines lines headed (row ∷ more) = lines headed row ++ all_lines lines true more

abbrev pub is_some_row : {R : Type 0} → List R → Bool
is_some_row [] = false
is_some_row (row ∷ more) = true

module _ {W R : Type 0} (contents : W → Option (List ℕ)) (lines : Form → Bool → R → List ℕ) where
  -- All these rows were printed, each once and in this order, behind what stood there, and nothing else.
  pub record PrintsAll (old new : RowPrinter W) (rows : List R) : Type 0 where
    pub appended : Appends (contents old.writer.0) (contents new.writer.0) (all_lines (lines old.form) old.is_headed rows)
    pub form : new.form ≡ old.form
    pub headed : new.is_headed ≡ (old.is_headed || is_some_row rows)

  -- The lines of these rows were printed in part, from their start, behind what stood there, and nothing else. The heads stand before what
  -- comes next once a row was begun.
  pub record PrintsPart (old new : RowPrinter W) (rows : List R) : Type 0 where
    pub written : List ℕ
    pub unwritten : List ℕ
    pub part : all_lines (lines old.form) old.is_headed rows ≡ written ++ unwritten
    pub appended : Appends (contents old.writer.0) (contents new.writer.0) written
    pub form : new.form ≡ old.form
    pub headed : ((written ≡ []) × (new.is_headed ≡ old.is_headed)) ⊎ ((new.is_headed ≡ true) × (is_some_row rows ≡ true))

-- what a call prints, however it ends
abbrev pub Prints : {W R A E : Type 0} → (W → Option (List ℕ)) → (Form → Bool → R → List ℕ) → RowPrinter W → RowPrinter W → Result A E → List R → Type 0
Prints contents lines old new (Ok _) rows = PrintsAll contents lines old new rows
Prints contents lines old new (Err e) rows = PrintsPart contents lines old new rows
