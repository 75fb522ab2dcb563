-- The faults of all layers: their numbers, and descriptions for operators. (Own numbers.)
use Rattle.std.specs.Prelude.{ℕ, nat_eq, List, [], ◌∷◌, Option, Some, None, codes, if◌then◌else◌}
use Rattle.ts_core.specs.facts.Facts.{Text}
use Rattle.ts_core.specs.declared.text.fault_code.FaultCode.{FaultCode}
use Rattle.ts_core.specs.declared.text.fault_code.FaultCode.TheVariants.{IntervalRange, KeptTooShortly, RepeatedRuleName, BadRuleName, TooManyRules, BadKeptTags, BadSettingsText, UnknownRule, NoMeasurement, BadTag, RepeatedTagKey, NoField, BadField, FieldType, IntegerRange, BadTimestamp, TimestampRange, OverLimit, ReservedKey, BlockTooShort, BlockLongNumber, BlockTimeRange, BlockTooLong, TooManySeries, BelowRawMark, TooManyFacts, RunInProgress, NotAnImage, ImageVersion, BrokenImage, ContradictoryImage, ImageDevice, EndlessImage, Syntax, OutOfProfile, NoLowerBound, OutOfRange, RepeatedColumn, TooManyStatements, TooManyBuckets, BucketBeforeLeastTime, BadCertificate, Gap, BelowMark, NoSuchRule, OtherMeasurement, OffBoundary, BelowLow, Straddles, TagNotKept, NoPlan, TooManyRuleBuckets, StalePlan, SeveralStatements, UnknownCommand, ReaderFailed, WriterFailed, EndlessScript, ConnectionReaderFailed, ConnectionWriterFailed}

abbrev pub code_number : FaultCode → ℕ
code_number IntervalRange = 1
code_number KeptTooShortly = 2
code_number RepeatedRuleName = 3
code_number BadRuleName = 4
code_number TooManyRules = 5
code_number BadKeptTags = 6
code_number BadSettingsText = 7
code_number UnknownRule = 8
code_number NoMeasurement = 11
code_number BadTag = 12
code_number RepeatedTagKey = 13
code_number NoField = 14
code_number BadField = 15
code_number FieldType = 16
code_number IntegerRange = 17
code_number BadTimestamp = 18
code_number TimestampRange = 19
code_number OverLimit = 20
code_number ReservedKey = 21
code_number BlockTooShort = 31
code_number BlockLongNumber = 32
code_number BlockTimeRange = 33
code_number BlockTooLong = 34
code_number TooManySeries = 41
code_number BelowRawMark = 51
code_number TooManyFacts = 52
code_number RunInProgress = 53
code_number NotAnImage = 61
code_number ImageVersion = 62
code_number BrokenImage = 63
code_number ContradictoryImage = 64
code_number ImageDevice = 65
code_number EndlessImage = 66
code_number Syntax = 71
code_number OutOfProfile = 72
code_number NoLowerBound = 73
code_number OutOfRange = 74
code_number RepeatedColumn = 75
code_number TooManyStatements = 76
code_number TooManyBuckets = 77
code_number BucketBeforeLeastTime = 78
code_number BadCertificate = 81
code_number Gap = 82
code_number BelowMark = 83
code_number NoSuchRule = 84
code_number OtherMeasurement = 85
code_number OffBoundary = 86
code_number BelowLow = 87
code_number Straddles = 88
code_number TagNotKept = 89
code_number NoPlan = 91
code_number TooManyRuleBuckets = 92
code_number StalePlan = 93
code_number SeveralStatements = 94
code_number UnknownCommand = 95
code_number ReaderFailed = 96
code_number WriterFailed = 97
code_number EndlessScript = 98
code_number ConnectionReaderFailed = 101
code_number ConnectionWriterFailed = 102

abbrev pub code_message : FaultCode → Text
code_message IntervalRange = codes "a rule's interval is below a second or above 366 days"
code_message KeptTooShortly = codes "a rule's duration is shorter than that of raw points"
code_message RepeatedRuleName = codes "two rules have the same name"
code_message BadRuleName = codes "a rule's name isn't 1 to 32 characters from a to z, 0 to 9 and _"
code_message TooManyRules = codes "there are more than 32 rules"
code_message BadKeptTags = codes "a rule keeps more than 16 tags, or a tag twice"
code_message BadSettingsText = codes "the text doesn't have the form of settings"
code_message UnknownRule = codes "no rule of the settings has this name"
code_message NoMeasurement = codes "the measurement is empty"
code_message BadTag = codes "a tag isn't a key, an equals sign and a value"
code_message RepeatedTagKey = codes "a tag key occurs twice in the line"
code_message NoField = codes "the line has no field"
code_message BadField = codes "a field isn't a key, an equals sign and a value"
code_message FieldType = codes "a field's value is a float, a string, a boolean or an unsigned integer"
code_message IntegerRange = codes "an integer doesn't fit 64 bits"
code_message BadTimestamp = codes "the timestamp isn't a number"
code_message TimestampRange = codes "the timestamp isn't a valid time"
code_message OverLimit = codes "the line or its series key is too long, or it has too many tags or fields"
code_message ReservedKey = codes "a tag or a field is named time"
code_message BlockTooShort = codes "a coded block ends within a number"
code_message BlockLongNumber = codes "a number of a coded block isn't in its shortest form"
code_message BlockTimeRange = codes "a time of a coded block isn't valid"
code_message BlockTooLong = codes "bytes follow the end of a coded block"
code_message TooManySeries = codes "the series is new, and 1,000,000 are registered"
code_message BelowRawMark = codes "the line's time is below the raw mark"
code_message TooManyFacts = codes "more than 2^62 values would be accepted"
code_message RunInProgress = codes "a retention run is in progress"
code_message NotAnImage = codes "the file isn't an image of a store"
code_message ImageVersion = codes "the image is of another version"
code_message BrokenImage = codes "the image is corrupt at this byte"
code_message ContradictoryImage = codes "parts of the image contradict each other"
code_message ImageDevice = codes "the image could not be read or written"
code_message EndlessImage = codes "the image didn't end within 2^32 reads"
code_message Syntax = codes "a syntax error in a query"
code_message OutOfProfile = codes "this part of InfluxQL isn't supported"
code_message NoLowerBound = codes "the query has no lower time bound"
code_message OutOfRange = codes "a number, a duration or a time is out of range"
code_message RepeatedColumn = codes "two columns have the same name, or one is named time"
code_message TooManyStatements = codes "there are more than 16 statements"
code_message TooManyBuckets = codes "the range has more than 10,000 buckets"
code_message BucketBeforeLeastTime = codes "the first bucket starts before the least time"
code_message BadCertificate = codes "the text isn't a certificate"
code_message Gap = codes "the pieces don't follow one another from the start of the range to its end"
code_message BelowMark = codes "a raw piece starts below the raw mark"
code_message NoSuchRule = codes "no rule has this name"
code_message OtherMeasurement = codes "the rule is of another measurement"
code_message OffBoundary = codes "an end of the piece isn't a boundary of the rule's buckets"
code_message BelowLow = codes "the piece starts below the rule's low index"
code_message Straddles = codes "the rule's buckets don't fit the query's"
code_message TagNotKept = codes "the rule doesn't keep a tag that the query names"
code_message NoPlan = codes "the query needs dropped points, and no cells fit it"
code_message TooManyRuleBuckets = codes "more than 1,000,000 buckets of rules would have to be searched for a plan"
code_message StalePlan = codes "the settings or marks have changed since the plan was checked"
code_message SeveralStatements = codes "a certificate was given with more than one statement"
code_message UnknownCommand = codes "the line isn't a command"
code_message ReaderFailed = codes "standard input could not be read"
code_message WriterFailed = codes "standard output could not be written"
code_message EndlessScript = codes "standard input didn't end within 2^32 reads"
code_message ConnectionReaderFailed = codes "the request could not be read"
code_message ConnectionWriterFailed = codes "the reply could not be written"

-- ordered by number
abbrev pub all_codes : List FaultCode
all_codes =
    IntervalRange ∷ KeptTooShortly
    ∷ RepeatedRuleName ∷ BadRuleName ∷ TooManyRules ∷ BadKeptTags ∷ BadSettingsText ∷ UnknownRule ∷ NoMeasurement ∷
    BadTag ∷ RepeatedTagKey
    ∷ NoField ∷ BadField ∷ FieldType ∷ IntegerRange ∷ BadTimestamp ∷ TimestampRange ∷ OverLimit ∷ ReservedKey ∷
    BlockTooShort ∷ BlockLongNumber
    ∷ BlockTimeRange ∷ BlockTooLong ∷ TooManySeries ∷ BelowRawMark ∷ TooManyFacts ∷ RunInProgress ∷
    NotAnImage ∷ ImageVersion
    ∷ BrokenImage ∷ ContradictoryImage ∷ ImageDevice ∷ EndlessImage ∷ Syntax ∷ OutOfProfile ∷ NoLowerBound ∷
    OutOfRange ∷ RepeatedColumn
    ∷ TooManyStatements ∷ TooManyBuckets ∷ BucketBeforeLeastTime ∷ BadCertificate ∷ Gap ∷ BelowMark ∷
    NoSuchRule
    ∷ OtherMeasurement ∷ OffBoundary ∷ BelowLow ∷ Straddles ∷ TagNotKept ∷ NoPlan ∷ TooManyRuleBuckets ∷ StalePlan ∷
    SeveralStatements ∷ UnknownCommand
    ∷ ReaderFailed ∷ WriterFailed ∷ EndlessScript ∷ ConnectionReaderFailed ∷ ConnectionWriterFailed ∷ []

-- the first code of a list with this number
abbrev pub first_numbered : ℕ → List FaultCode → Option FaultCode
first_numbered n [] = None
first_numbered n (code ∷ others) = if nat_eq (code_number code) n then Some code else first_numbered n others

abbrev pub code_of_number : ℕ → Option FaultCode
code_of_number n = first_numbered n all_codes
