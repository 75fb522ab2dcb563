-- Settings, their faults, and their text.
pub mod Settings
pub mod SettingsFaults
pub mod SettingsTexts
pub mod SettingsFound
pub mod SettingsWritten
