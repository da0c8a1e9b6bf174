-- Which bytes spell which resource descriptors, and what is wrong where none is spelled (ACPI 6.5,
-- 6.4.2 and 6.4.3). Nothing here reads from left to right: these are relations between bytes and
-- items.
use Rattle.std.specs.Prelude.{◌≡◌, ◌⊎◌, ◌<◌, ◌≤◌, ◌+◌, ◌%◌, ℕ, List, [], ◌∷◌, ◌++◌, true, false, Some, None, length}
use Rattle.acpi_tables.specs.Bytes.{number_at}
use Rattle.acpi_resources.specs.Forms.{small_form, large_form, may_have}
use Rattle.acpi_resources.specs.Items.{is_end, said}
use Rattle.acpi_resources.specs.declared.fault.ResourceCause.{ResourceCause}
use Rattle.acpi_resources.specs.declared.fault.ResourceCause.TheVariants.{Truncated, BadItem, NoEnd}
use Rattle.acpi_resources.specs.declared.fault.ResourceRefusal.{ResourceRefusal}
use Rattle.acpi_resources.specs.declared.form.Form.{Form}
use Rattle.acpi_resources.specs.declared.item.Item.{Item}

-- the tag of a small descriptor: bits 6:3 name it, and bits 2:0 are the number of bytes behind it
pub record IsSmallLead (form : Form) (size : ℕ) (lead : List ℕ) : Type 0 where
  pub tag : ℕ
  pub is : lead ≡ tag ∷ []
  pub small : tag < 128
  pub names : small_form tag ≡ form
  pub tells : tag % 8 ≡ size

-- the tag of a large descriptor, whose bit 7 is set and whose others name it, and the number of
-- bytes behind both in two bytes
pub record IsLargeLead (form : Form) (size : ℕ) (lead : List ℕ) : Type 0 where
  pub tag : ℕ
  pub low : ℕ
  pub high : ℕ
  pub is : lead ≡ tag ∷ low ∷ high ∷ []
  pub large : 128 ≤ tag
  pub names : large_form tag ≡ form
  pub tells : number_at 0 2 (low ∷ high ∷ []) ≡ size

-- tag and length of a descriptor
abbrev pub IsLead : Form → ℕ → List ℕ → Type 0
IsLead form size lead = IsSmallLead form size lead ⊎ IsLargeLead form size lead

-- these bytes are an item's: tag and length, and as many bytes behind them as they tell, which that
-- descriptor may have, and which say the item
pub record Spells (item : Item) (bytes : List ℕ) : Type 0 where
  pub form : Form
  pub lead : List ℕ
  pub body : List ℕ
  pub whole : bytes ≡ lead ++ body
  pub leads : IsLead form (length body) lead
  pub allowed : may_have form (length body) ≡ true
  pub says : said form body ≡ Some item

-- the spellings of these items, one behind the other, begin the bytes; the last of them is an end
-- tag, and no other is
abbrev pub Begin : List Item → List ℕ → Type 0
Begin [] bytes = ⊥
Begin (item ∷ items) bytes =
    (spelling : List ℕ) × (rest : List ℕ) × (bytes ≡ spelling ++ rest) × Spells item spelling
    × ((is_end item ≡ true) × (items ≡ []) ⊎ (is_end item ≡ false) × Begin items rest)

-- the tag of a large descriptor, and not both bytes of its length
pub record IsCutLead (bytes : List ℕ) : Type 0 where
  pub tag : ℕ
  pub rest : List ℕ
  pub is : bytes ≡ tag ∷ rest
  pub large : 128 ≤ tag
  pub short : length rest < 2

-- tag and length of a descriptor that may have so many bytes, and fewer bytes behind them
pub record IsCutBody (bytes : List ℕ) : Type 0 where
  pub form : Form
  pub size : ℕ
  pub lead : List ℕ
  pub behind : List ℕ
  pub whole : bytes ≡ lead ++ behind
  pub leads : IsLead form size lead
  pub allowed : may_have form size ≡ true
  pub short : length behind < size

-- tag and length of a descriptor that may not have so many bytes
pub record HasBadLength (bytes : List ℕ) : Type 0 where
  pub form : Form
  pub size : ℕ
  pub lead : List ℕ
  pub behind : List ℕ
  pub whole : bytes ≡ lead ++ behind
  pub leads : IsLead form size lead
  pub refused : may_have form size ≡ false

-- a descriptor whose bytes are all there, and say nothing
pub record SaysNothing (bytes : List ℕ) : Type 0 where
  pub form : Form
  pub lead : List ℕ
  pub body : List ℕ
  pub rest : List ℕ
  pub whole : bytes ≡ lead ++ (body ++ rest)
  pub leads : IsLead form (length body) lead
  pub allowed : may_have form (length body) ≡ true
  pub nothing : said form body ≡ None

-- what is wrong with bytes at whose front no item is spelled
abbrev pub IsWrong : ResourceCause → List ℕ → Type 0
IsWrong Truncated bytes = IsCutLead bytes ⊎ IsCutBody bytes
IsWrong BadItem bytes = HasBadLength bytes ⊎ SaysNothing bytes
IsWrong NoEnd bytes = bytes ≡ []

-- the bytes, which stand at a place, begin with the spellings of these items, none of them an end
-- tag, and are refused behind them
abbrev pub AreRefused : List Item → ResourceRefusal → ℕ → List ℕ → Type 0
AreRefused [] refused at bytes = (refused.at ≡ at) × IsWrong refused.cause bytes
AreRefused (item ∷ items) refused at bytes =
    (spelling : List ℕ) × (rest : List ℕ) × (bytes ≡ spelling ++ rest) × Spells item spelling
    × (is_end item ≡ false)
    × AreRefused items refused (at + length spelling) rest
