-- A code as the code reader reads it, in the table's words: its fault or its pairs.
use Rattle.meaning.specs.Line.{Reading, faulty, sound}
use Rattle.code.specs.Read as code

abbrev pub reading_of : code.Reading → Reading
reading_of (code.pairs ps) = sound ps
reading_of (code.fault n ps) = faulty n
