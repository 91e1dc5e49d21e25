mod Hundreds
mod LineParts
mod ToldLogs
