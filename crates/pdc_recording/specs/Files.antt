-- Which files of a record go, and that the one that is written is none of them.
use Rattle.std.specs.Prelude.{◌≡◌, refl, ℕ, ◌-◌, ◌==◌, ◌&&◌, Bool, true, false, List, [], ◌∷◌, Option, None, Some, nat_lt, not, if◌then◌else◌}
use Rattle.pdc_recording.specs.Lives.{is_removed}
use Rattle.pdc_recording.specs.declared.files.FileNumber.{FileNumber}

-- It is not the file that is written, where one is: it has the number of another life's start, or another one of its own.
abbrev pub is_other : (gone : FileNumber) → (written : Option FileNumber) → Bool
is_other gone None = true
is_other gone (Some written) = not (gone.start == written.start && gone.number == written.number)

-- Where so many files of a life stay, with the one that begins with this number, that many before it goes; none does where there are not
-- more than so many.
abbrev pub old_of : (keep : Option ℕ) → (number : ℕ) → Option ℕ
old_of None number = None
old_of (Some keep) number = if nat_lt 0 keep && nat_lt keep number then Some (number - keep) else None

-- Of the life with this start, where that with the other start is the one that is recorded, the files go: it is over, and not to stay.
abbrev pub is_over : (kept : ℕ) → (starts : List ℕ) → (gone start : ℕ) → Bool
is_over kept starts gone start = nat_lt gone start && is_removed kept starts gone

-- of three files that stay, with number 5 there are 3, 4 and 5
pub second_goes : old_of (Some 3) 5 ≡ Some 2
second_goes = refl

pub none_goes : old_of (Some 3) 3 ≡ None
none_goes = refl

pub all_stay : old_of None 500 ≡ None
all_stay = refl

-- the files of the life that is recorded stay, whatever starts are there
pub own_stays : is_over 1 (7 ∷ []) 7 7 ≡ false
own_stays = refl
