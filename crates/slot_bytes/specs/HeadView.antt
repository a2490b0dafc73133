-- A head as it was read.
use Rattle.slot_bytes.specs.declared.head.Head as code
use Rattle.slot_bytes.specs.Reading.{Head}

abbrev pub head_view : code.Head → Head
head_view h = record { gate = h.gate; aside = h.aside; version = h.version; len = h.len; marks = h.marks; from = h.from; rcpts = h.rcpts }
