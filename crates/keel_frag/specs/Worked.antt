-- Worked examples, by which the definitions were tried.
use Rattle.std.specs.Prelude.{◌≡◌, [], ◌∷◌, codes, replicate}
use Rattle.std.specs.List.{range_with_len}
use Rattle.keel_frag.specs.Checksum.{crc32c, mask}
use Rattle.keel_frag.specs.Writing.{record_bytes}

-- two checks of RFC 3720: of 32 zeros, and of the bytes from 0 to 31
abbrev pub ThirtyTwoBytes : Type 0
ThirtyTwoBytes = (crc32c (replicate 32 0) ≡ 0x8A9136AA) × (crc32c (range_with_len 0 32) ≡ 0x46DD794E)

-- the check of nine digits, which lists of such checks have (CRC-32/ISCSI), and as it is stored
abbrev pub NineDigits : Type 0
NineDigits = (crc32c (codes "123456789") ≡ 0xE3069283) × (mask 0xE3069283 ≡ 0xC78AB0E5)

-- a record of one FULL fragment
abbrev pub FullRecord : Type 0
FullRecord = record_bytes 0 (codes "abc") ≡ 242 ∷ 112 ∷ 232 ∷ 157 ∷ 3 ∷ 0 ∷ 1 ∷ 97 ∷ 98 ∷ 99 ∷ []

-- where exactly seven bytes are left, an empty FIRST fragment, and a LAST one
abbrev pub EmptyFirst : Type 0
EmptyFirst =
    record_bytes 32761 (1 ∷ 2 ∷ [])
    ≡ 100 ∷ 81 ∷ 208 ∷ 233 ∷ 0 ∷ 0 ∷ 2 ∷ 31 ∷ 3 ∷ 67 ∷ 130 ∷ 2 ∷ 0 ∷ 4 ∷ 1 ∷ 2 ∷ []

-- where they are left for an empty record, one FULL fragment
abbrev pub EmptyFull : Type 0
EmptyFull = record_bytes 32761 [] ≡ 5 ∷ 43 ∷ 40 ∷ 67 ∷ 0 ∷ 0 ∷ 1 ∷ []

-- where fewer are left, zeros first
abbrev pub ZerosFirst : Type 0
ZerosFirst = record_bytes 32763 [] ≡ 0 ∷ 0 ∷ 0 ∷ 0 ∷ 0 ∷ 5 ∷ 43 ∷ 40 ∷ 67 ∷ 0 ∷ 0 ∷ 1 ∷ []
