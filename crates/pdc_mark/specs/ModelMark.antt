-- What a mark in memory shows of itself.
use Rattle.pdc_mark.specs.declared.model_mark.ModelMark.{ModelMark}
use Rattle.pdc_mark.specs.declared.stored.Stored.{Stored}

-- what it stores
abbrev pub stored_in : ModelMark → Stored
stored_in mark = mark.stored
