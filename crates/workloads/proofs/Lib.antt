-- How the argument goes: LinesOfTexts, KindsOfWords: a plan's text is parsed in only one way, line by line and word
-- by word. Limits: rows within the limits have few operations together. FaultsOfTexts: a text has only one fault.
pub mod FaultsOfTexts
pub mod KindsOfWords
pub mod Limits
pub mod LinesOfTexts
