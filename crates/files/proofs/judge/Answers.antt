-- `files::judge` meets its contract. Assumes nothing.
use Rattle.files.proofs.judge.Goals as goal

pub returns : goal.returns
returns c =
    c.judge_file.ensures _ c.index.ensures
