-- The words by which messages tell of the rules.
use Rattle.std.specs.Prelude.{ℕ, List, codes}
use Rattle.elf_load.specs.declared.rule.ElfRule.{ElfRule}
use Rattle.elf_load.specs.declared.rule.ElfRule.TheVariants.{TooLong, Short, Magic, Class, DataOrder, Version, FileType, Machine, HeaderSize, TableOutside, SegmentOutside, FileOverMemory, AddressWraps}

abbrev pub word_of : ElfRule → List ℕ
word_of TooLong = codes "too-long"
word_of Short = codes "short"
word_of Magic = codes "magic"
word_of Class = codes "class"
word_of DataOrder = codes "data"
word_of Version = codes "version"
word_of FileType = codes "type"
word_of Machine = codes "machine"
word_of HeaderSize = codes "header-size"
word_of TableOutside = codes "table-outside"
word_of SegmentOutside = codes "segment-outside"
word_of FileOverMemory = codes "file-over-memory"
word_of AddressWraps = codes "address-wraps"
