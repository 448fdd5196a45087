-- Names of files: which there are, when two are the same, how they are printed, and their order.
use Rattle.std.specs.Prelude.{ℕ, ◌-◌, ◌≤◌, ◌==◌, Bool, true, false, List, ◌++◌, length, replicate, codes}
use Rattle.std.specs.Fmt.{decimal}
use Rattle.keel_base.specs.declared.file_name.FileName.{FileName}
use Rattle.keel_base.specs.declared.file_name.FileName.TheVariants.{Log, Table, Trash, Manifest, Current, Temp}
use Rattle.keel_base.specs.declared.limits.TheConstants.{LAST_NUMBER}
use Rattle.keel_base.specs.Keys.{key_lt}

-- whether two names are the same
abbrev pub name_eq : FileName → FileName → Bool
name_eq (Log m) (Log n) = m == n
name_eq (Table m) (Table n) = m == n
name_eq (Trash m) (Trash n) = m == n
name_eq (Manifest m) (Manifest n) = m == n
name_eq Current Current = true
name_eq (Temp m) (Temp n) = m == n
name_eq _ _ = false

-- files are numbered from 1 to the last number
pub record IsFileNumber (number : ℕ) : Type 0 where
  pub least : 1 ≤ number
  pub most : number ≤ LAST_NUMBER

-- a name that a file of the store may have
abbrev pub IsName : FileName → Type 0
IsName (Log n) = IsFileNumber n
IsName (Table n) = IsFileNumber n
IsName (Trash n) = IsFileNumber n
IsName (Manifest n) = IsFileNumber n
IsName Current = Unit {0}
IsName (Temp n) = IsFileNumber n

-- decimal, with zeros in front up to six digits
abbrev pub numeral : ℕ → List ℕ
numeral n = replicate (6 - length (decimal n)) 48 ++ decimal n

-- the bytes of a name, after RocksDB's file names
unfoldable pub printed : FileName → List ℕ
printed (Log n) = numeral n ++ codes ".log"
printed (Table n) = numeral n ++ codes ".sst"
printed (Trash n) = numeral n ++ codes ".sst.trash"
printed (Manifest n) = codes "MANIFEST-" ++ numeral n
printed Current = codes "CURRENT"
printed (Temp n) = numeral n ++ codes ".dbtmp"

-- a listing goes by the bytes of the names
abbrev pub listed_before : FileName → FileName → Bool
listed_before a b = key_lt (printed a) (printed b)
