-- What reading sees of the parts of a record.
-- No public clause cites these: they say what private functions answer.
use Rattle.auth_records.specs.declared.decoding.Head as heads
use Rattle.auth_records.specs.declared.decoding.Dates as date_pairs
use Rattle.auth_records.specs.declared.decoding.Names as name_lists
use Rattle.auth_records.specs.Reading.{Head, Dates, Names}

abbrev pub head_view : heads.Head → Head
head_view h = record { enabled = h.enabled; has_plain = h.has_plain; has_otp = h.has_otp; proto = h.proto; wiz = h.wiz; fails = h.fails; since = h.since }

abbrev pub dates_view : date_pairs.Dates → Dates
dates_view d = record { last = d.last; expires = d.expires }

abbrev pub names_view : name_lists.Names → Names
names_view n = record { name = n.name; long = n.long; group = n.group }
