use Rattle.fw_memory.proofs.MemFilesLemmas.{missed, missed_if}
use Rattle.fw_memory.proofs.mem_files.MemFilesFiles.source.Goals as goal

pub returns-clause-missing : goal.returns-clause-missing
returns-clause-missing c = missed _ _ _ _ _ _ c.if-note.ensures.is c.if-note.ensures.adds c.miss.ensures

pub returns-then-note-clause-missing : goal.returns-then-note-clause-missing
returns-then-note-clause-missing c = missed_if c.give.result _ _ _ _ _ _ c.if-note.ensures.is c.if-note.ensures.adds c.give.ensures.missing
