-- Spellings of lexical parts: which whole byte lists spell which value (ACPI 6.5, 20.2.2 to
-- 20.2.4).
use Rattle.std.specs.Prelude.{◌≡◌, ℕ, ◌-◌, ◌/◌, ◌^◌, ◌≤◌, ◌⊎◌, ◌++◌, List, [], ◌∷◌, length, replicate, IsTrue, true, false}
use Rattle.std.specs.List.{concat}
use Rattle.aml_lex.specs.Characters.{is_lead_name_char, is_name_char}
use Rattle.aml_lex.specs.NameStrings.{NameString}
use Rattle.aml_lex.specs.Numbers.{little, pkg_value}

-- a package length: bits 7:6 of its lead byte say how many bytes follow
abbrev pub SpellsPkgLength : ℕ → List ℕ → Type 0
SpellsPkgLength value [] = ⊥
SpellsPkgLength value (lead ∷ more) = (length more ≡ lead / 64) × (value ≡ pkg_value lead more)

-- a name segment: four bytes, the first no digit
abbrev pub IsNameSeg : List ℕ → Type 0
IsNameSeg (a ∷ b ∷ c ∷ d ∷ []) = IsTrue (is_lead_name_char a) × IsTrue (is_name_char b)
    × IsTrue (is_name_char c) × IsTrue (is_name_char d)
IsNameSeg bytes = ⊥

abbrev pub AreNameSegs : List (List ℕ) → Type 0
AreNameSegs [] = Unit {0}
AreNameSegs (seg ∷ segs) = IsNameSeg seg × AreNameSegs segs

-- what stands behind a name string's prefix: 00 for no segment; one segment; 2E and two; 2F, a
-- count that isn't 0, and so many. The count is one byte, so at most 255.
abbrev pub SpellsPath : List (List ℕ) → List ℕ → Type 0
SpellsPath segs path =
    AreNameSegs segs
    × (((segs ≡ []) × (path ≡ 0x00 ∷ []))
    ⊎ ((length segs ≡ 1) × (path ≡ concat segs))
    ⊎ ((length segs ≡ 2) × (path ≡ 0x2E ∷ concat segs))
    ⊎ ((1 ≤ length segs) × (path ≡ 0x2F ∷ length segs ∷ concat segs)))

-- a name string: `\`, or any number of `^`, and a path
abbrev pub SpellsName : NameString → List ℕ → Type 0
SpellsName name bytes =
    (path : List ℕ) × SpellsPath name.segs path
    × (((name.rooted ≡ true) × (name.parents ≡ 0) × (bytes ≡ 0x5C ∷ path))
    ⊎ ((name.rooted ≡ false) × (bytes ≡ replicate name.parents 0x5E ++ path)))

-- integer data: 0, 1 and all ones in one byte, or a byte that announces a number of 1, 2, 4 or 8
-- bytes
abbrev pub SpellsInteger : ℕ → List ℕ → Type 0
SpellsInteger value [] = ⊥
SpellsInteger value (b ∷ more) =
    ((b ≡ 0x00) × (more ≡ []) × (value ≡ 0))
    ⊎ ((b ≡ 0x01) × (more ≡ []) × (value ≡ 1))
    ⊎ ((b ≡ 0xFF) × (more ≡ []) × (value ≡ 2 ^ 64 - 1))
    ⊎ ((b ≡ 0x0A) × (length more ≡ 1) × (value ≡ little more))
    ⊎ ((b ≡ 0x0B) × (length more ≡ 2) × (value ≡ little more))
    ⊎ ((b ≡ 0x0C) × (length more ≡ 4) × (value ≡ little more))
    ⊎ ((b ≡ 0x0E) × (length more ≡ 8) × (value ≡ little more))

-- bytes 01 to 7F
abbrev pub IsText : List ℕ → Type 0
IsText [] = Unit {0}
IsText (b ∷ more) = (0x01 ≤ b) × (b ≤ 0x7F) × IsText more

-- string data: a text and a 00
abbrev pub SpellsString : List ℕ → List ℕ → Type 0
SpellsString text bytes = IsText text × (bytes ≡ text ++ 0x00 ∷ [])
