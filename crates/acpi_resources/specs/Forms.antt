-- Which descriptor a tag names, and how long it may be (ACPI 6.5, 6.4.2 and 6.4.3, tables 6.27 and
-- 6.40).
use Rattle.std.specs.Prelude.{ℕ, ◌+◌, ◌*◌, ◌/◌, ◌==◌, ◌||◌, Bool, true, nat_le, if◌then◌else◌}
use Rattle.acpi_resources.specs.declared.form.Form.{Form}
use Rattle.acpi_resources.specs.declared.form.Form.TheVariants.{Irq, Io, FixedIo, End, Memory, FixedMemory, AddressSpace, Interrupt, Other}
use Rattle.acpi_resources.specs.declared.item.AddressWidth.{AddressWidth}
use Rattle.acpi_resources.specs.declared.item.AddressWidth.TheVariants.{Word, Dword, Qword}

-- a small descriptor's name is bits 6:3 of its tag
abbrev pub small_form : ℕ → Form
small_form tag =
    if tag / 8 == 4 then Irq else (if tag / 8 == 8 then Io else (if tag / 8 == 9 then FixedIo
    else (if tag / 8 == 15 then End else Other tag)))

-- a large descriptor's name is bits 6:0 of its tag, whose bit 7 is set
abbrev pub large_form : ℕ → Form
large_form tag =
    if tag == 128 + 5 then Memory
    else (if tag == 128 + 6 then FixedMemory
    else (if tag == 128 + 7 then AddressSpace Dword
    else (if tag == 128 + 8 then AddressSpace Word
    else (if tag == 128 + 9 then Interrupt
    else (if tag == 128 + 10 then AddressSpace Qword
    else Other tag)))))

-- how many bytes a number of an address space descriptor has
abbrev pub bytes_of : AddressWidth → ℕ
bytes_of Word = 2
bytes_of Dword = 4
bytes_of Qword = 8

-- whether a descriptor may have so many bytes behind tag and length: a small one just those of its
-- table, a large one as many and further ones, which are not looked at
abbrev pub may_have : Form → ℕ → Bool
may_have Irq size = (size == 2) || (size == 3)
may_have Io size = size == 7
may_have FixedIo size = size == 3
may_have End size = size == 1
may_have Memory size = nat_le 17 size
may_have FixedMemory size = nat_le 9 size
may_have (AddressSpace width) size = nat_le (3 + 5 * bytes_of width) size
may_have Interrupt size = nat_le 2 size
may_have (Other tag) size = true
