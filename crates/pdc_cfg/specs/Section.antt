-- What a section says, whether it is lent or held.
pub use Rattle.pdc_cfg.specs.SectionBytes.{SectionFields, IsSection, IsSectionFault, HasIntegers, AreFew, AreMany, len_in}
pub use Rattle.pdc_cfg.specs.SectionBytes.{source_in, format_in, phasors_in, analogs_in, digitals_in, count_in}
use Rattle.pdc_cfg.specs.declared.section.SectionView.{SectionView}
use Rattle.pdc_cfg.specs.declared.section.Section.{Section}

abbrev pub fields_of_view : SectionView → SectionFields
fields_of_view s = record { bytes = s.bytes.now; shape = s.shape; source = s.source; count = s.count; polar = s.polar }

abbrev pub fields_of_section : Section → SectionFields
fields_of_section s = record { bytes = s.bytes.items; shape = s.shape; source = s.source; count = s.count; polar = s.polar }
